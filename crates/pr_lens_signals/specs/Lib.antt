pub mod Manners
pub mod Calls
pub mod Signals
pub mod Reading
