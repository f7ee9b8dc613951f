pub mod Reaches
pub mod Extents
