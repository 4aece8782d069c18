pub mod Markets
pub mod Quotes
pub mod Stages
