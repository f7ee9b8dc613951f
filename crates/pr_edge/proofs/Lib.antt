pub mod Appending
pub mod FirstFile
