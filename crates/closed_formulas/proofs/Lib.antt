pub mod Representations
pub mod Validity
pub mod Sums
pub mod Lawful
