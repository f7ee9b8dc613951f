pub mod Scenes
pub mod Waves
