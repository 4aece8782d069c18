pub mod Variables
pub mod Globals
pub mod Functions
pub mod Items
pub mod Made
pub mod Programs
