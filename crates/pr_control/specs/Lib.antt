pub mod Time
pub mod Residents
pub mod Counts
pub mod Drain
pub mod StateRows
