-- Stage s works s cycles behind stage 0: at x it does what stage 0 does in cycle x. So all of a stage is said of
-- x = t - s, and no cycle number is left in what follows.
use Rattle.std.specs.Prelude.{ℕ, zero, suc, List, slice_get, Option, Some, None, if◌then◌else◌}
use Rattle.pr_conf_pipeline.specs.Rows.{Step, rows, state_after}
use Rattle.pr_machine_account.specs.Account.{below, enters}

-- the state of stage s at x
unfoldable pub state_at : {S R : Type 0} → (ℕ → Step S R) → List R → List ℕ → ℕ → ℕ → S
state_at M xs es s x = state_after M s (below x es) xs

-- what stage s reads at x, which is what stage s - 1 shows one cycle later; none is a bubble
unfoldable pub read_at : {S R : Type 0} → (ℕ → Step S R) → List R → List ℕ → ℕ → ℕ → Option R
read_at M xs es s x = if enters x es then slice_get (rows M s xs) (below x es) else None

-- what stage s reads in a cycle: the bus in stage 0, else what the stripe before shows
abbrev pub input_of : {R : Type 0} → ℕ → Option R → Option R → Option R
input_of zero bus before = bus
input_of (suc s) bus before = before

-- the state after a row or a bubble
abbrev pub state_with : {S R : Type 0} → Step S R → S → Option R → S
state_with m st None = st
state_with m st (Some x) = m.next st x

-- the row that a row or a bubble becomes
abbrev pub row_with : {S R : Type 0} → Step S R → S → Option R → Option R
row_with m st None = None
row_with m st (Some x) = Some (m.out st x)
