pub mod Fed
pub mod Turns
pub mod Items
