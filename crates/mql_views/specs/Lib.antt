pub mod Cuts
pub mod Parts
pub mod Declarations
pub mod Statements
pub mod Values
pub mod Items
pub mod Seen
pub mod Laws
