pub mod Cuts
pub mod Steps
pub mod Tokens
pub mod Walks
