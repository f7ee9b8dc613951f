-- How many units are made for each of some streams.
use Rattle.std.specs.Prelude.{ℕ, ◌+◌, ◌-◌, max, List, [], ◌∷◌}
use Rattle.pr_flat.specs.declared.equations.Operand.{Operand}
use Rattle.pr_flat.specs.declared.equations.Operand.TheVariants.{Const, Eq, Past}
use Rattle.pr_cut_units.specs.Equations.{UnitPlan, first_unit}

-- how many equations there are up to that of an operand, which is a recurrence's where its past is read
abbrev pub equations_to : Operand → ℕ
equations_to (Const number) = 0
equations_to (Eq equation) = equation + 1
equations_to (Past rec k) = rec + 1

-- The units for each stream, where so many equations were made for those before it. Its equations are those behind them, up to its
-- own: the equations of an expression stand before that of the stream, and behind those of all that the text has before it.
abbrev pub unit_counts : UnitPlan → ℕ → List Operand → List ℕ
unit_counts plan from [] = []
unit_counts plan from (operand ∷ operands) =
    (first_unit plan (max from (equations_to operand)) - first_unit plan from) ∷ unit_counts plan (max from (equations_to operand)) operands
