pub mod Pairs
pub mod Agreeing
pub mod EvenExpressions
pub mod EvenStatements
pub mod EvenPrograms
mod Examples
pub mod Calm
