pub mod Lent
pub mod Written
pub mod Outcomes
pub mod Kinds
