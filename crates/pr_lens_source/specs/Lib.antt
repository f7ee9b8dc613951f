pub mod Depths
pub mod Introduced
pub mod Items
pub mod Kinds
pub mod Names
pub mod Ranges
pub mod Spans
pub mod Tokens
