pub mod FrontLemmas
pub mod OneRefusal
