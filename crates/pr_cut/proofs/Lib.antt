mod ItemLemmas
mod OperatorLemmas
mod EquationLemmas
mod NetLemmas
mod OutputLemmas
mod ReadyLemmas
mod StepLemmas
