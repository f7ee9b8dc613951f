mod Known
mod SlotLemmas
mod WordLemmas
