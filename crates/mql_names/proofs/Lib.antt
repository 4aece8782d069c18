pub mod Faults
pub mod Scopes
pub mod Joined
pub mod MeantMore
