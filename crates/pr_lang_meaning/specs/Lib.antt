pub mod Streams
pub mod Expressions
pub mod Statements
pub mod Programs
