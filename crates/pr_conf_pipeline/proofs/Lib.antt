pub mod RowLaws
pub mod ResumeLaws
mod Examples
