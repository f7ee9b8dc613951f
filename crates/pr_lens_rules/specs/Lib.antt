pub mod Rules
pub mod Uses
