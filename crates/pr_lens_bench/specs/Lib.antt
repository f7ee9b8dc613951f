pub mod Pieces
pub mod Cells
pub mod Texts
pub mod Reading
pub mod Benches
