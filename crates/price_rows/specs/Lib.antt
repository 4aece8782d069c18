pub mod Files
pub mod Moments
pub mod Numbers
pub mod Ranges
pub mod Rows
pub mod Views
