-- What the note gains.
use Rattle.std.specs.Prelude.{ℕ, List, ◌⊎◌}
use Rattle.pr_edge.specs.Count.{Rose}
use Rattle.pr_edge.specs.Tape.{Tape, Appends, AppendsFront}

-- the whole line, or a part of it where the note's count of faults rose
abbrev pub GainsNote : Tape → Tape → ℕ → ℕ → List ℕ → Type 0
GainsNote old new before now line = Appends old new line ⊎ (AppendsFront old new line × Rose before now)
