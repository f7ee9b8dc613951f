pub mod Spelling
pub mod Reading
pub mod Rules
pub mod Marks
pub mod Outcome
pub mod Fabrics
