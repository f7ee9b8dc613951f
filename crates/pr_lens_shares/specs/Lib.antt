pub mod Greatest
pub mod Counts
pub mod Owners
pub mod Tallies
pub mod Shares
