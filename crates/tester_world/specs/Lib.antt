pub mod Asked
pub mod Journal
pub mod World
