pub mod SetLemmas
pub mod LineLemmas
