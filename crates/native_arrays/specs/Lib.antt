pub mod Lists
pub mod Extremes
pub mod Orders
pub mod Runs
