pub mod Wholes
pub mod Naturals
