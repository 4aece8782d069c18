mod Running
pub mod RunLemmas
