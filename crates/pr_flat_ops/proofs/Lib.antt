pub mod Residues
pub mod Values
pub mod Wrapping
pub mod SumLemmas
pub mod BitLemmas
pub mod TestLemmas
pub mod ShiftLemmas
pub mod Least
