pub mod Bytes
pub mod Depth
