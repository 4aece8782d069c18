pub mod Changed
pub mod Objects
