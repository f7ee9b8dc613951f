-- For which stream each unit is made.
use Rattle.std.specs.Prelude.{ℕ, ◌+◌, ◌==◌, Bool, false, List, [], ◌∷◌, ◌++◌, Option, Some, position, replicate, if◌then◌else◌}
use Rattle.pr_flat.specs.declared.equations.Op.{Op}
use Rattle.pr_flat.specs.declared.equations.Operand.{Operand}
use Rattle.pr_flat.specs.declared.equations.Operand.TheVariants.{Const, Eq, Past}
use Rattle.pr_flat.specs.Facts.{is_input}
use Rattle.pr_flat.specs.Shape.{EquationShape}
use Rattle.pr_cut_units.specs.Equations.{UnitPlan}
use Rattle.pr_lens_shares.specs.Counts.{unit_counts}

-- an operand is the stream of this equation
abbrev pub is_equation : ℕ → Operand → Bool
is_equation number (Const value) = false
is_equation number (Eq equation) = equation == number
is_equation number (Past rec k) = false

-- an input has one unit, which is made for the first stream that is the input's equation: the input itself
abbrev pub input_owner : List Operand → ℕ → Op → List (Option ℕ)
input_owner operands number op = if is_input op then position (is_equation number) operands ∷ [] else []

-- the units of the inputs among equations, the first of which has this number
abbrev pub input_owners : List Operand → ℕ → List EquationShape → List (Option ℕ)
input_owners operands number [] = []
input_owners operands number (e ∷ es) = input_owner operands number e.op ++ input_owners operands (number + 1) es

-- so many units for each stream, the first of which has this place
abbrev pub owned : ℕ → List ℕ → List (Option ℕ)
owned place [] = []
owned place (count ∷ counts) = replicate count (Some place) ++ owned (place + 1) counts

-- For each unit of a plan the place of its stream: the units of the inputs stand first, and then those of each stream, one stream after
-- the other
abbrev pub owners_of : UnitPlan → List Operand → List (Option ℕ)
owners_of plan operands = input_owners operands 0 plan.equations ++ owned 0 (unit_counts plan 0 operands)
