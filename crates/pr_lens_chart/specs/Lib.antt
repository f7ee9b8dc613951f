pub mod Charts
pub mod Pictures
