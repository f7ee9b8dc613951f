mod CostLemmas
mod Examples
mod RateLemmas
mod TextLemmas
