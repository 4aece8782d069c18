pub mod Steps
pub mod Natives
pub mod Expressions
pub mod Statements
pub mod Whole
pub mod Pace
pub mod PaceStatements
pub mod PaceFunctions
mod Sample
