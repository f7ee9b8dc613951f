mod MessageLemmas
mod Refused
pub mod SyntaxLemmas
pub mod TellingLemmas
pub mod WidthLemmas
