pub mod WalkLemmas
pub mod DownLemmas
pub mod MarkLemmas
pub mod StageLemmas
pub mod TapLemmas
