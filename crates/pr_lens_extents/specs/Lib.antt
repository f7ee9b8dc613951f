pub mod Verdicts
pub mod Scenes
pub mod Parameters
pub mod Expressions
pub mod Statements
pub mod Programs
