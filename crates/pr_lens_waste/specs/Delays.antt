-- Which streams are delays, and which of these no output needs.
use Rattle.std.specs.Prelude.{ℕ, ◌&&◌, Bool, true, false, not, List, Option, None, Some, get_or, slice_index_or, if◌then◌else◌}
use Rattle.std.specs.List.{slice_get}
use Rattle.pr_flat.specs.declared.equations.Op.{Op}
use Rattle.pr_flat.specs.declared.equations.Op.TheVariants.{Delay, Fit}
use Rattle.pr_flat.specs.declared.equations.Operand.{Operand}
use Rattle.pr_flat.specs.declared.equations.Operand.TheVariants.{Const, Eq, Past}
use Rattle.pr_flat.specs.Shape.{EquationShape}

abbrev pub is_delay : Op → Bool
is_delay (Delay c) = true
is_delay op = false

abbrev pub is_fit : Op → Bool
is_fit Fit = true
is_fit op = false

-- the equation of an operand
abbrev pub equation_at : List EquationShape → Operand → Option EquationShape
equation_at equations (Eq i) = slice_get equations i
equation_at equations (Const c) = None
equation_at equations (Past rec k) = None

-- what an equation fits to a width; the operand itself where its equation is of another kind
abbrev pub unfitted_by : Option EquationShape → Operand → Operand
unfitted_by None operand = operand
unfitted_by (Some e) operand = if is_fit e.op then get_or e.args 0 operand else operand

abbrev pub unfitted : List EquationShape → Operand → Operand
unfitted equations operand = unfitted_by (equation_at equations operand) operand

abbrev pub delays : Option EquationShape → Bool
delays None = false
delays (Some e) = is_delay e.op

abbrev pub is_delayed : List EquationShape → Operand → Bool
is_delayed equations operand = delays (equation_at equations operand)

-- an output can be reached from it, by such a flag for each equation
abbrev pub is_needed : List Bool → Operand → Bool
is_needed needed (Eq i) = slice_index_or needed i false
is_needed needed operand = true

-- a delay, at its own width or a declared one, that no output needs
abbrev pub is_idle : List EquationShape → List Bool → Operand → Bool
is_idle equations needed operand = is_delayed equations (unfitted equations operand) && not (is_needed needed operand)

-- the index of an instance that is such a delay
abbrev pub idle_index : List EquationShape → List Bool → Option ℕ → Operand → Option ℕ
idle_index equations needed index operand = if is_idle equations needed operand then index else None
