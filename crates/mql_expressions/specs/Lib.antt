pub mod Rules
pub mod Views
pub mod Made
pub mod Values
