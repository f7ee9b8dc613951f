pub mod TextLemmas
pub mod RowLemmas
mod Examples
