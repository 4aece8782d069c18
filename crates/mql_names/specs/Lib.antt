pub mod Faults
pub mod Scopes
pub mod Maps
pub mod Types
pub mod Meanings
pub mod Things
pub mod Events
pub mod Rules
