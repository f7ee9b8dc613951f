pub mod EquationLemmas
pub mod ReachedLemmas
pub mod PlanLemmas
pub mod GroupLemmas
pub mod Parted
pub mod HoldLemmas
