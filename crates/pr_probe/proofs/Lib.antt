pub mod References
pub mod Scope
pub mod Equations
pub mod Known
pub mod Meaning
pub mod Laws
pub mod Operands
mod Listing
pub mod Probing
pub mod ListWeights
pub mod Walking
pub mod Columns
