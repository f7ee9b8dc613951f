pub mod NotesLemmas
pub mod CallLemmas
