pub mod Parents
pub mod Maps
