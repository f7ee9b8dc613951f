pub mod Keeping
pub mod Outputs
pub mod Reading
pub mod Standing
