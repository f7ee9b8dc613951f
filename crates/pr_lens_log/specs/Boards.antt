-- Which stage stands in which stripe.
use Rattle.std.specs.Prelude.{ℕ, List, [], ◌∷◌, Option, Some, None, slice_get, slice_set, nat_lt, length, if◌then◌else◌}
use Rattle.pr_lens_log.specs.declared.lines.Logged.{Logged}

abbrev pub stage_or_none : Option (Option ℕ) → Option ℕ
stage_or_none None = None
stage_or_none (Some stage) = stage

-- the stage in a stripe
abbrev pub stage_in : List (Option ℕ) → ℕ → Option ℕ
stage_in stages stripe = stage_or_none (slice_get stages stripe)

-- after a cycle that configures a stage in a stripe, or none
abbrev pub after_turn : List (Option ℕ) → Option (ℕ × ℕ) → List (Option ℕ)
after_turn stages None = stages
after_turn stages (Some (stage, stripe)) =
    if nat_lt stripe (length stages) then slice_set stages stripe (Some stage) else stages

-- after these cycles
abbrev pub after_turns : List (Option ℕ) → List Logged → List (Option ℕ)
after_turns stages [] = stages
after_turns stages (c ∷ cs) = after_turns (after_turn stages c.turn.configured) cs
