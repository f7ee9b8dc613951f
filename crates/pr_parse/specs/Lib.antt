pub mod Kinds
pub mod Run
pub mod Derive
pub mod Reads
pub mod Levels
pub mod Fronts
pub mod Outcomes
