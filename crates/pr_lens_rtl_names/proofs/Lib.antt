pub mod NameLemmas
pub mod WordLaws
