pub mod Gives
pub mod Holders
pub mod Ranges
