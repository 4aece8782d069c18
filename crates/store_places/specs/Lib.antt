pub mod Seen
pub mod Puts
