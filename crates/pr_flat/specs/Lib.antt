pub mod Forms
pub mod Rows
pub mod Shape
pub mod Facts
pub mod Widths
pub mod Values
pub mod Flats
pub mod Laws
