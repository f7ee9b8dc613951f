pub mod CountLemmas
pub mod CutLemmas
pub mod StepLaws
pub mod WholeLemmas
