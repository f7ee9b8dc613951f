mod LineLemmas
mod ProgramLemmas
