-- A stripe as contracts see it, and what one cycle makes of it.
use Rattle.std.specs.Prelude.{ℕ, ◌==◌, Option, Some, None, if◌then◌else◌}
use Rattle.pr_conf_pipeline.specs.Rows.{Step}
use Rattle.pr_machine_account.specs.Flow.{input_of, state_with, row_with}

-- a stripe without a stage, a stripe that holds a stage in a state, or no stripe at all. The row is what the stripe
-- shows: None is a bubble, and the registers of a bubble do not count
pub data Spot (S R : Type 0) : Type 0 where
  Bare : (row : Option R) → Spot S R
  Held : (stage : ℕ) → (state : S) → (row : Option R) → Spot S R
  Gone : Spot S R

-- the row that is shown
abbrev pub shows : {S R : Type 0} → Spot S R → Option R
shows (Bare row) = row
shows (Held stage state row) = row
shows Gone = None

-- the stage that is held
abbrev pub stage_in : {S R : Type 0} → Spot S R → Option ℕ
stage_in (Bare row) = None
stage_in (Held stage state row) = Some stage
stage_in Gone = None

-- what a stripe becomes in a cycle in which it computes
abbrev pub stepped : {S R : Type 0} → (ℕ → Step S R) → Option R → Spot S R → Option R → Spot S R
stepped M bus (Bare row) before = Bare row
stepped M bus (Held s st row) before = Held s (state_with (M s) st (input_of s bus before)) (row_with (M s) st (input_of s bus before))
stepped M bus Gone before = Gone

-- the store's row of stage s after a stripe was emptied
abbrev pub saved : {S R : Type 0} → (ℕ → S) → Spot S R → ℕ → S
saved store (Bare row) s = store s
saved store (Held n st row) s = if s == n then st else store s
saved store Gone s = store s
