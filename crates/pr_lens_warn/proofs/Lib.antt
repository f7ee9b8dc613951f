mod NeedLemmas
mod LineLemmas
mod WarningLemmas
mod FindingLemmas
mod TextLemmas
