pub mod Formulas
pub mod Letters
