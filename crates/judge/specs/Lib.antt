pub mod Report
pub mod Verdict
