pub mod Ends
pub mod Makers
pub mod Needed
pub mod Targets
pub mod Unfits
