pub mod Columns
pub mod Needs
pub mod Recurrences
pub mod Smaller
pub mod Takes
pub mod Texts
