pub mod IntroducedLemmas
pub mod ItemLemmas
pub mod RangeLemmas
pub mod SpanLemmas
