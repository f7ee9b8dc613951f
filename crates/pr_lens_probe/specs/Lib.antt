pub mod Fresh
pub mod Kinds
pub mod Asked
pub mod Given
pub mod Shown
