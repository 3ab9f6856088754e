pub mod Functions
pub mod Growth
pub mod Members
pub mod Accounts
pub mod Built
