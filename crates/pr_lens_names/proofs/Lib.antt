pub mod BracketLemmas
pub mod InstanceLemmas
pub mod PieceLemmas
pub mod PlaceLemmas
