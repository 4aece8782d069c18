pub mod Begins
pub mod Falls
pub mod Hurries
pub mod Keeps
pub mod Lands
pub mod Turns
pub mod Unboxed
