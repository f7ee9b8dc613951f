pub mod Outcomes
pub mod Names
pub mod Constants
pub mod Amounts
