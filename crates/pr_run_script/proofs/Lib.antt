pub mod RunLaws
pub mod EndLaws
pub mod WholeLaws
pub mod TextLaws
pub mod LogLaws
mod Examples
