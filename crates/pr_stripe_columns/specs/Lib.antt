pub mod Reach
pub mod Elements
