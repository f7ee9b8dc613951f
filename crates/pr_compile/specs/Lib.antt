pub mod Configured
pub mod Refusals
pub mod Faults
pub mod Meant
