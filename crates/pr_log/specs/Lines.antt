-- The lines of the log, each with its LF.
use Rattle.std.specs.Prelude.{ℕ, ◌+◌, ◌/◌, ◌%◌, nat_lt, List, [], ◌∷◌, ◌++◌, codes, decimal, if◌then◌else◌, Option, Some, None}
use Rattle.std.specs.List.{flat_map}
use Rattle.pr_conf.specs.declared.turns.Turn.{Turn}

-- a hexadecimal digit, in lower case
abbrev pub hex_digit : ℕ → ℕ
hex_digit n = if nat_lt n 10 then 48 + n else 87 + n

-- a byte, the higher digit first
abbrev pub hex_byte : ℕ → List ℕ
hex_byte b = hex_digit (b / 16) ∷ hex_digit (b % 16) ∷ []

-- the stage that was configured and its stripe
abbrev pub configured_text : Option (ℕ × ℕ) → List ℕ
configured_text None = codes "-"
configured_text (Some (stage, stripe)) = decimal stage ++ codes "@" ++ decimal stripe

-- the stage that was saved and its state, the byte of column 0 first
abbrev pub saved_text : Option ℕ → List ℕ → List ℕ
saved_text None state = codes "-"
saved_text (Some stage) state = decimal stage ++ codes " " ++ flat_map hex_byte state

-- the number of a sample that entered, or of a result that left
abbrev pub entry_text : Option ℕ → List ℕ
entry_text None = codes "-"
entry_text (Some n) = decimal n

-- a cycle that advanced
abbrev pub cycle_line_of : Turn → ℕ → List ℕ → List ℕ
cycle_line_of turn time state =
    codes "cycle " ++ decimal time
    ++ codes " conf " ++ configured_text turn.configured
    ++ codes " save " ++ saved_text turn.saved state
    ++ codes " in " ++ entry_text turn.entered
    ++ codes " out " ++ entry_text turn.left
    ++ codes "\n"

-- a stalled cycle
abbrev pub stall_line_of : ℕ → List ℕ
stall_line_of time = codes "stall " ++ decimal time ++ codes "\n"

-- one cycle
abbrev pub line_of : Turn → ℕ → List ℕ → List ℕ
line_of turn time state = if turn.advanced then cycle_line_of turn time state else stall_line_of time

-- the end of a run
abbrev pub end_line_of : ℕ → ℕ → ℕ → List ℕ
end_line_of cycles stalls results =
    codes "end cycles " ++ decimal cycles ++ codes " stalls " ++ decimal stalls ++ codes " records " ++ decimal results ++ codes "\n"
