pub mod Instants
pub mod RowLaws
pub mod Texts
