pub mod Spots
pub mod Stands
pub mod Cycle
