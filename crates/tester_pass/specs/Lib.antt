pub mod Pass
pub mod Runs
pub mod Laws
