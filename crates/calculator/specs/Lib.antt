pub mod Calls
pub mod Accounts
pub mod Calculators
pub mod Texts
