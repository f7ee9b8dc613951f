pub mod Bits
pub mod Shifts
pub mod Units
pub mod Kinds
pub mod Factors
pub mod Products
pub mod Texts
