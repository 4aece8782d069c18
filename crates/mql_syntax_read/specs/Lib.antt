pub mod Statements
pub mod Seen
pub mod Functions
pub mod Classes
pub mod Items
