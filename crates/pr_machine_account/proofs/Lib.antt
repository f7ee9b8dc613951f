pub mod AccountLaws
pub mod FlowLaws
pub mod ReplyLaws
pub mod DrainLaws
pub mod CountLaws
pub mod CycleClause
mod Examples
