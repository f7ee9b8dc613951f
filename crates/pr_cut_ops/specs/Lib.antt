pub mod Low
pub mod Makes
