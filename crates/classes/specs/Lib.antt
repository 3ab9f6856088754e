pub mod Functions
pub mod Growth
pub mod Settling
pub mod Theorems
