pub mod QuantityLemmas
pub mod KindLemmas
pub mod RowLemmas
pub mod TurnLemmas
pub mod WalkedLemmas
pub mod RuleLemmas
pub mod SaidLemmas
