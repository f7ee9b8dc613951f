pub mod CountLemmas
pub mod ShareLemmas
pub mod TallyLemmas
