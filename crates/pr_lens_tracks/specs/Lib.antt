pub mod Looks
pub mod Names
pub mod Tables
pub mod Waves
pub mod Texts
