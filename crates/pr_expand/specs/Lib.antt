pub mod Keys
pub mod Code
pub mod Descents
pub mod Parts
pub mod Scopes
pub mod Worlds
