pub mod Members
pub mod Sizes
pub mod Maps
