pub mod CellLemmas
pub mod BenchLemmas
