-- Equations as lists.
use Rattle.std.specs.Prelude.{◌≡◌, ℕ, Bool, Option, Some, List, map}
use Rattle.std.specs.List.{slice_get}
use Rattle.pr_flat.specs.declared.equations.Operand.{Operand}
use Rattle.pr_flat.specs.declared.equations.Op.{Op}
use Rattle.pr_flat.specs.declared.equations.Equation.{Equation}

-- an equation: its operands and their kinds as lists
pub record EquationShape : Type 0 where
  pub op : Op
  pub args : List Operand
  pub declared : Option ℕ
  pub kinds : List Bool

abbrev pub equation_shape : Equation → EquationShape
equation_shape e = record { op = e.op; args = e.args.items; declared = e.declared; kinds = e.kinds.items }

abbrev pub shapes_of : List Equation → List EquationShape
shapes_of equations = map equation_shape equations

-- a fact for each equation and its number
abbrev pub EachEquation : List EquationShape → (ℕ → EquationShape → Type 0) → Type 0
EachEquation equations P = (i : ℕ) (e : EquationShape) → slice_get equations i ≡ Some e → P i e
