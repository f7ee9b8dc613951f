-- A line of a list, as the code sees it.
use Rattle.std.specs.Prelude.{◌≡◌, ℕ, true, false, List, Some, None}
use Rattle.pr_tool_share.specs.declared.entries.Line.{Line}
use Rattle.pr_tool_share.specs.declared.entries.Said.{Said}
use Rattle.pr_tool_share.specs.Entries.{Entry, entry_in, entry_of, counts}

abbrev pub entry_said : Said → Entry
entry_said said = record { program = said.program.now; samples = said.samples.now; quota = said.quota }

-- these bytes are this line
abbrev pub IsLine : List ℕ → Line → Type 0
IsLine bytes Line.Blank = counts bytes ≡ false
IsLine bytes (Line.Program entry) = (counts bytes ≡ true) × (entry_of bytes ≡ Some (entry_in entry))
IsLine bytes Line.Wrong = (counts bytes ≡ true) × (entry_of bytes ≡ None)
