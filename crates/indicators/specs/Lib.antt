pub mod Prices
pub mod Averages
pub mod Values
