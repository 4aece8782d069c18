pub mod Applied
pub mod Compared
pub mod Others
pub mod Updated
