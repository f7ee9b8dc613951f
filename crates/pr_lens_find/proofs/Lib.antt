pub mod Lookups
pub mod MadeLemmas
pub mod MissingLemmas
pub mod OffenceLemmas
pub mod Possible
pub mod TurnLemmas
pub mod WalkLemmas
