pub mod Plans
pub mod Parts
pub mod Marks
