-- What a plan says of equations with their widths.
use Rattle.std.specs.Prelude.{◌≡◌, ◌<◌, ℕ, true, false, Some, List, length, vec_len, slice_index}
use Rattle.std.specs.List.{slice_get}
use Rattle.pr_flat.specs.declared.equations.Operand.{Operand}
use Rattle.pr_flat.specs.declared.equations.Op.{Op}
use Rattle.pr_flat.specs.declared.flat.Flat.{Flat}
use Rattle.pr_flat.specs.Flats.{equations_of}
use Rattle.pr_flat.specs.Shape.{EquationShape, EachEquation}
use Rattle.pr_flat.specs.Facts.{is_rec}
use Rattle.pr_cut_units.specs.Reached.{reached, hold_count}
use Rattle.pr_cut_units.specs.Equations.{UnitPlan, plan_of, own_count, hold_unit}
use Rattle.pr_cut_units.specs.Flats.{flat_plan}
use Rattle.pr_cut_units.specs.Groups.{Holds}
use Rattle.pr_cut_units.specs.Nets.{holds_from}
use Rattle.pr_cut_plan.specs.declared.plans.CutPlan.{CutPlan}

-- equation rec is a recurrence, whose body begins with this equation
pub record IsRecurrence (equations : List EquationShape) (rec first : ℕ) : Type 0 where
  pub equation : EquationShape
  pub there : slice_get equations rec ≡ Some equation
  pub init : ℕ
  pub op : equation.op ≡ Op.Rec init first

-- so many hold units has equation i, if it is a recurrence
abbrev pub IsHoldCount : List EquationShape → ℕ → ℕ → Type 0
IsHoldCount equations i count = (e : EquationShape) → slice_get equations i ≡ Some e → is_rec e.op ≡ true → count ≡ hold_count equations i

-- so many hold units has each recurrence
abbrev pub AreHoldCounts : List EquationShape → List ℕ → Type 0
AreHoldCounts equations counts = EachEquation equations (λ i e. is_rec e.op ≡ true → slice_index counts i ≡ hold_count equations i)

-- no hold units has an equation that is no recurrence
abbrev pub HaveNoHolds : List EquationShape → List ℕ → Type 0
HaveNoHolds equations counts = EachEquation equations (λ i e. is_rec e.op ≡ false → slice_index counts i ≡ 0)

-- so many units has equation i beside those of the inputs
abbrev pub IsOwnCount : List EquationShape → List ℕ → ℕ → ℕ → Type 0
IsOwnCount equations widths i count = (e : EquationShape) → slice_get equations i ≡ Some e → count ≡ own_count equations widths i e e.op

-- the hold units of each recurrence begin here
abbrev pub AreHoldUnits : UnitPlan → List ℕ → Type 0
AreHoldUnits plan units = (i : ℕ) → i < length plan.equations → slice_index units i ≡ hold_unit plan i

-- it has an entry for each equation: whether an output can be reached from it, where the hold units of a recurrence begin, and how many they are
pub record IsPlanOf (plan : CutPlan) (equations : List EquationShape) (widths : List ℕ) (outputs : List Operand) : Type 0 where
  pub reached : plan.reached.items ≡ reached equations outputs
  pub firsts : AreHoldUnits (plan_of equations widths outputs) plan.hold_units.items
  pub counts : AreHoldCounts equations plan.hold_counts.items
  pub flags : vec_len plan.reached ≡ length equations
  pub units : vec_len plan.hold_units ≡ length equations
  pub holds : vec_len plan.hold_counts ≡ length equations

-- by every such plan these are the hold units of the recurrences that have units
abbrev pub AreHoldsOf : Flat → CutPlan → List Holds → Type 0
AreHoldsOf flat plan holds = (widths : List ℕ) → IsPlanOf plan (equations_of flat) widths flat.outputs.items → holds ≡ holds_from (flat_plan flat widths) 0 (equations_of flat) plan.reached.items
