pub mod Files
pub mod Slots
pub mod Gathering
pub mod Words
