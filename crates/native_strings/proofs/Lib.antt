pub mod Lists
pub mod Comparing
pub mod Replaced
pub mod Finding
pub mod Parts
pub mod Blanks
