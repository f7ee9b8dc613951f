-- Results on their way to a stream, and what became of the last of them.
use Rattle.std.specs.Prelude.{◌≡◌, Bool, false, [], Option, Some, None, is_some}
use Rattle.std.specs.Io.Buffered.{writer_buffer}
use Rattle.pr_system.specs.declared.gathering.Finished.{Finished}
use Rattle.pr_system.specs.declared.gathering.Gathering.{Gathering}

-- all that was gathered is handed on, or no more results are taken
abbrev pub IsHandedOn : {W : Type 0} → Gathering W → Type 0
IsHandedOn g = g.is_broken ≡ false → writer_buffer g.stream ≡ []

-- the last results were handed on, and went through
abbrev pub are_through : {W : Type 0} → Option (Finished W) → Bool
are_through None = false
are_through (Some finished) = is_some finished.stream
