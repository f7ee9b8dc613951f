pub mod CountLemmas
pub mod Values
