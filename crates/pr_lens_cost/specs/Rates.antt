-- How many samples go through in how many cycles, for v stages on p stripes.
use Rattle.std.specs.Prelude.{ℕ, ◌+◌, ◌-◌, ◌≡◌, nat_le, if◌then◌else◌, List, [], ◌∷◌}
use Rattle.pr_control.specs.Counts.{cycles_of}
use Rattle.pr_lens_cost.specs.declared.cycles.Rate.{Rate}
use Rattle.pr_lens_cost.specs.declared.cycles.Row.{Row}

abbrev pub rate_of : ℕ → ℕ → Rate
rate_of v p = if nat_le v p then record { samples = 1; cycles = 1 } else record { samples = p - 1; cycles = v }

-- as many samples more as the rate says take as many cycles more
abbrev pub TakesTheRate : ℕ → ℕ → ℕ → Type 0
TakesTheRate v p n = cycles_of v p (n + (rate_of v p).samples) ≡ cycles_of v p n + (rate_of v p).cycles

-- the line of so many stripes, for n samples
abbrev pub row_of : ℕ → ℕ → ℕ → Row
row_of v n p = record { stripes = p; rate = rate_of v p; cycles = cycles_of v p n }

-- the stripes that are told of
abbrev pub told_stripes : List ℕ
told_stripes = 2 ∷ 3 ∷ 4 ∷ 7 ∷ 8 ∷ 16 ∷ 32 ∷ 64 ∷ 128 ∷ 256 ∷ []
