mod Examples
pub mod FormLemmas
pub mod RowLemmas
pub mod WidthLemmas
pub mod WidthsUnique
pub mod FlatLemmas
pub mod ValueLemmas
pub mod NumberLemmas
