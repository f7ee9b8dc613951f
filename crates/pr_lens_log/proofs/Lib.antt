pub mod CycleLaws
pub mod ExcerptLaws
pub mod LineLaws
pub mod ReaderLaws
pub mod WordLaws
pub mod WindowLaws
