pub mod Latest
pub mod Plain
pub mod Points
pub mod Whole
