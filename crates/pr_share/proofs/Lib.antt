pub mod ListFacts
pub mod Shown
pub mod Feeds
pub mod Steps
pub mod Parts
pub mod RoundSteps
pub mod StopSteps
pub mod ItemSteps
