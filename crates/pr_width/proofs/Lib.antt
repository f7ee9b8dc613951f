pub mod OperandLemmas
pub mod SolverLemmas
