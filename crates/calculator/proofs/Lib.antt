pub mod Steps
pub mod Runs
pub mod Loops
pub mod Agreeing
