-- What is kept of a log while its lines are read.
use Rattle.std.specs.Prelude.{◌≡◌, ◌+◌, ◌-◌, ◌++◌, ◌∷◌, [], ℕ, Bool, true, max, List, Option, Some, None, fold, if◌then◌else◌, length, map, nat_lt, slice_range, take}
use Rattle.pr_lens_log.specs.declared.lines.Logged.{Logged}
use Rattle.pr_lens_log.specs.declared.excerpts.Choice.{Choice}
use Rattle.pr_lens_log.specs.declared.excerpts.Excerpt.{Excerpt}
use Rattle.pr_lens_log.specs.declared.totals.Totals.{Totals}
use Rattle.pr_lens_log.specs.Pasts.{IsPast}
use Rattle.pr_lens_log.specs.Windows.{part_in, part_of, time_at}

-- ---- how many stages are named, and how many stripes
abbrev pub stages_to : Option (ℕ × ℕ) → ℕ
stages_to None = 0
stages_to (Some (stage, stripe)) = stage + 1

abbrev pub stripes_to : Option (ℕ × ℕ) → ℕ
stripes_to None = 0
stripes_to (Some (stage, stripe)) = stripe + 1

abbrev pub most : (Option (ℕ × ℕ) → ℕ) → List Logged → ℕ
most count cycles = fold max 0 (map (λ c. count c.turn.configured) cycles)

-- ---- all cycles
-- how many there are, beside so many results, the numbers of the first and the last, and how many stages and stripes they name
pub record AreTotals (cycles : List Logged) (results : ℕ) (t : Totals) : Type 0 where
  pub count : t.count ≡ length cycles
  pub results_are : t.results ≡ results
  pub first : t.first ≡ time_at cycles 0
  pub last : t.last ≡ time_at cycles (length cycles - 1)
  pub stages : t.stages ≡ most stages_to cycles
  pub stripes : t.stripes ≡ most stripes_to cycles

-- ---- those that are kept
-- the first so many, or all
abbrev pub first_in : {A : Type 0} → Option ℕ → List A → List A
first_in None xs = xs
first_in (Some count) xs = take count xs

-- whether one more is kept beside so many
abbrev pub has_room : Option ℕ → ℕ → Bool
has_room None kept = true
has_room (Some count) kept = nat_lt kept count

abbrev pub with_one : {A : Type 0} → Bool → List A → A → List A
with_one room xs x = if room then xs ++ x ∷ [] else xs

-- of these cycles, before each of which so many results were written, those that are chosen are kept, with what those before
-- them left behind on so many stripes
pub record IsExcerpt (choice : Choice) (stripes : ℕ) (cycles : List Logged) (written : List ℕ) (e : Excerpt) : Type 0 where
  pub even : length written ≡ length cycles
  pub part : e.part ≡ part_of choice.window cycles
  pub past : IsPast stripes (take e.part.start cycles) e.past
  pub cycles_are : e.cycles.items ≡ first_in choice.most (part_in e.part cycles)
  pub written_are : e.written.items ≡ first_in choice.most (slice_range written e.part.start e.part.end)
