-- What cycles leave behind.
use Rattle.std.specs.Prelude.{◌≡◌, ℕ, ◌+◌, min, List, [], ◌∷◌, Option, Some, None, replicate}
use Rattle.pr_lens_log.specs.declared.lines.Logged.{Logged}
use Rattle.pr_lens_log.specs.declared.pasts.Past.{Past}
use Rattle.pr_lens_log.specs.Boards.{after_turns}

-- the count behind a cycle in which this sample entered, or this result left
abbrev pub count_after : ℕ → Option ℕ → ℕ
count_after count None = count
count_after count (Some number) = min (number + 1) 18446744073709551615

-- the count of samples that entered behind these cycles, and that of results that left
abbrev pub entered_after : ℕ → List Logged → ℕ
entered_after count [] = count
entered_after count (c ∷ cs) = entered_after (count_after count c.turn.entered) cs

abbrev pub left_after : ℕ → List Logged → ℕ
left_after count [] = count
left_after count (c ∷ cs) = left_after (count_after count c.turn.left) cs

-- these cycles went by, on so many stripes
pub record IsPast (stripes : ℕ) (cycles : List Logged) (past : Past) : Type 0 where
  pub stages : past.board.stages.items ≡ after_turns (replicate stripes None) cycles
  pub entered : past.entered ≡ entered_after 0 cycles
  pub left : past.left ≡ left_after 0 cycles
