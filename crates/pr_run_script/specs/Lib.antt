pub mod Script
pub mod Counts
pub mod Text
