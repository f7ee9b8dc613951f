pub mod Rates
pub mod Costs
pub mod Texts
pub mod Objects
