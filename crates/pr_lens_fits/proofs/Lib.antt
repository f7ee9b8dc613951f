pub mod EndLemmas
pub mod MakerLemmas
pub mod NeededLemmas
pub mod TargetLemmas
pub mod UnfitLemmas
