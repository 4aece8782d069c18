pub mod Arguments
pub mod Done
