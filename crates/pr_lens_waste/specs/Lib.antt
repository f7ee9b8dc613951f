pub mod Delays
pub mod Lines
pub mod Programs
