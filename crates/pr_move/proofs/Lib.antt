pub mod StillLemmas
pub mod MovingLemmas
pub mod MarkLemmas
