pub mod Brackets
pub mod Constants
pub mod Instances
pub mod Names
pub mod Pieces
