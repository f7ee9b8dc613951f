pub mod Folds
pub mod Maps
pub mod Placing
pub mod Seen
