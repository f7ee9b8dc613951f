pub mod TableLemmas
pub mod OwnerLaws
pub mod NoteLaws
