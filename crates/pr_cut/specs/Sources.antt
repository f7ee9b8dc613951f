-- Equations with their widths and their plan, and what is made of them so far.
use Rattle.std.specs.Prelude.{◌≡◌, ◌<◌, ◌≤◌, ◌+◌, ℕ, Bool, true, Some, List, [], ◌∷◌, length, take, drop, count_by}
use Rattle.std.specs.List.{slice_get}
use Rattle.pr_base.specs.Numbers.{slices_of}
use Rattle.pr_flat.specs.declared.equations.Operand.{Operand}
use Rattle.pr_flat.specs.Shape.{EquationShape, equation_shape, shapes_of}
use Rattle.pr_flat.specs.Facts.{is_input}
use Rattle.pr_flat.specs.Widths.{operand_width, AreWidths}
use Rattle.pr_width.specs.Reads.{is_within}
use Rattle.pr_net.specs.declared.cells.Slice.{Slice}
use Rattle.pr_net.specs.declared.cells.Cell.{Cell}
use Rattle.pr_cut_units.specs.Parts.{Making}
use Rattle.pr_cut_units.specs.Widening.{Argument, read_as}
use Rattle.pr_cut_units.specs.Equations.{UnitPlan, plan_of, hold_unit, operand_slices, equation_units, next_units, cut_after, cut_whole}
use Rattle.pr_cut_plan.specs.Plans.{IsPlanOf}
use Rattle.pr_cut.specs.declared.sources.PlannedEquations.{PlannedEquations}
use Rattle.pr_cut.specs.declared.sources.NextEquation.{NextEquation}

abbrev pub equations_in : PlannedEquations → List EquationShape
equations_in s = shapes_of s.flat.now.equations.items

-- what the units are made by
abbrev pub plan_in : PlannedEquations → UnitPlan
plan_in s = plan_of (equations_in s) s.widths.now s.flat.now.outputs.items

-- the units of an equation whose turn it is, on these operands, and after what the equations before it have
abbrev pub turn_units : PlannedEquations → NextEquation → List Argument → Making
turn_units s turn args = equation_units (plan_in s) turn.number turn.equation.now.op args

abbrev pub turn_next : PlannedEquations → NextEquation → List (List Cell) → List (List Slice) → Making
turn_next s turn units values = next_units (plan_in s) (record { units = units; values = values }) (equation_shape turn.equation.now)

-- an operand as it is read
abbrev pub read_operand : PlannedEquations → List (List Slice) → Operand → Bool → Argument
read_operand s values a signed = read_as signed (operand_width (plan_in s).widths a) (operand_slices (plan_in s) values a)

-- the widths are those of the equations, the plan is theirs, and they have no more units than a net may have
pub record IsPlanned (s : PlannedEquations) : Type 0 where
  pub widths : AreWidths (equations_in s) s.widths.now
  pub plan : IsPlanOf s.plan.now (equations_in s) s.widths.now s.flat.now.outputs.items
  pub few : length (cut_whole (plan_in s)).units ≤ 32768

-- the equation is the one of this number, and so many inputs stand before it
pub record IsTurn (s : PlannedEquations) (turn : NextEquation) : Type 0 where
  pub there : slice_get (equations_in s) turn.number ≡ Some (equation_shape turn.equation.now)
  pub inputs : turn.inputs ≡ count_by (λ (e : EquationShape). is_input e.op) (take turn.number (equations_in s))

-- these are the units and the slices of the equations before this one
pub record IsCutTo (plan : UnitPlan) (number : ℕ) (units : List (List Cell)) (values : List (List Slice)) : Type 0 where
  pub count : length values ≡ number
  pub rest : cut_after plan (record { units = units; values = values }) (drop number plan.equations) ≡ cut_whole plan

-- an operand that is a number, an equation whose slices are there, or a past that is held
abbrev pub IsNamed : UnitPlan → List (List Slice) → Operand → Type 0
IsNamed plan values (Operand.Const c) = Unit {0}
IsNamed plan values (Operand.Eq i) = i < length values
IsNamed plan values (Operand.Past rec k) = (rec < length plan.equations) × (1 ≤ k) × (hold_unit plan rec + k ≤ 32768)

-- and that has a slice for each byte of its width
pub record IsReady (plan : UnitPlan) (values : List (List Slice)) (a : Operand) : Type 0 where
  pub named : IsNamed plan values a
  pub within : is_within (length plan.widths) a ≡ true
  pub whole : length (operand_slices plan values a) ≡ slices_of (operand_width plan.widths a)
  pub some : 1 ≤ operand_width plan.widths a
  pub few : operand_width plan.widths a ≤ 128

abbrev pub AreReady : UnitPlan → List (List Slice) → List Operand → Type 0
AreReady plan values [] = Unit {0}
AreReady plan values (a ∷ args) = IsReady plan values a × AreReady plan values args
