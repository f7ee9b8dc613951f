pub mod Account
pub mod Flow
pub mod Replies
pub mod Drain
pub mod Cycles
