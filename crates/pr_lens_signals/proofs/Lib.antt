pub mod RowLemmas
pub mod TrackLemmas
pub mod SignalLemmas
