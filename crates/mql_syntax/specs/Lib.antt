pub mod Reads
pub mod Lists
pub mod Leaves
pub mod Types
pub mod Values
pub mod Variables
pub mod Seen
