pub mod Bytes
pub mod Lines
pub mod Json
pub mod Names
pub mod Findings
