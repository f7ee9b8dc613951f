-- Equations as the tests make them.
use Rattle.std.specs.Prelude.{ℕ, false, Option, Some, None, List, [], ◌∷◌, length, replicate}
use Rattle.pr_flat.specs.declared.equations.Operand.{Operand}
use Rattle.pr_flat.specs.declared.equations.Op.{Op}
use Rattle.pr_flat.specs.declared.equations.Op.TheVariants.{Input, Rec}
use Rattle.pr_flat.specs.declared.equations.Operand.TheVariants.{Eq}
use Rattle.pr_flat.specs.Shape.{EquationShape}

-- an equation whose operands are read as unsigned
abbrev pub shape_made : Op → List Operand → Option ℕ → EquationShape
shape_made op args declared = record { op = op; args = args; declared = declared; kinds = replicate (length args) false }

abbrev pub input_made : ℕ → EquationShape
input_made width = shape_made Input [] (Some width)

-- an input, an operation without a declared width, and a recurrence that goes on by it
abbrev pub recurrence_made : ℕ → Op → List Operand → ℕ → Option ℕ → List EquationShape
recurrence_made width op args init declared = input_made width ∷ shape_made op args None ∷ shape_made (Rec init 1) (Eq 1 ∷ []) declared ∷ []
