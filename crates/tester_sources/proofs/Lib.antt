pub mod SourceLemmas
pub mod JudgeLemmas
mod Refusing
