pub mod FreeLaws
pub mod StepLaws
pub mod PassLaws
