pub mod Joined
pub mod Numbered
pub mod Params
pub mod StaticThings
