pub mod Machine
pub mod Paced
