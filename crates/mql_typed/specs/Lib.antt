pub mod Typed
pub mod Operations
