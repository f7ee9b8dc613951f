-- The recurrences of a plan, and their last units.
use Rattle.std.specs.Prelude.{ℕ, ◌≡◌, ◌+◌, ◌-◌, ◌&&◌, Bool, false, true, List, slice_index_or}
use Rattle.std.specs.Option.{option_map_or}
use Rattle.pr_flat.specs.Facts.{is_rec, op_at}
use Rattle.pr_flat.specs.Shape.{EquationShape}
use Rattle.pr_cut_units.specs.Equations.{UnitPlan, hold_unit}
use Rattle.pr_cut_units.specs.Reached.{hold_count}

abbrev pub is_recurrence : List EquationShape → ℕ → Bool
is_recurrence equations rec = option_map_or is_rec (op_at equations rec) false

-- an equation is a recurrence, and an output can be reached from it
abbrev pub is_held : UnitPlan → ℕ → Bool
is_held plan rec = slice_index_or plan.reached rec false && is_recurrence plan.equations rec

-- the last unit of a recurrence: the last of those that hold it for later samples
abbrev pub last_unit : UnitPlan → ℕ → ℕ
last_unit plan rec = hold_unit plan rec + hold_count plan.equations rec - 1

-- it is that of this recurrence
pub record IsLastOf (plan : UnitPlan) (unit rec : ℕ) : Type 0 where
  pub held : is_held plan rec ≡ true
  pub last : last_unit plan rec ≡ unit
