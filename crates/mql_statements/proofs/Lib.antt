mod Closed
pub mod ThenTold
