-- Equations whose numbers are known without a sample, and the equations with each of these in the place of what gave it.
use Rattle.std.specs.Prelude.{◌≡◌, ℕ, ◌^◌, Bool, true, false, cond, nat_lt, Option, Some, None, unwrap_or, List, [], ◌∷◌, ◌++◌, length}
use Rattle.std.specs.List.{slice_get}
use Rattle.std.specs.Option.{option_map, option_map_or}
use Rattle.pr_flat.specs.declared.equations.Operand.{Operand}
use Rattle.pr_flat.specs.declared.equations.Operand.TheVariants.{Const, Eq, Past}
use Rattle.pr_flat.specs.declared.equations.Op.{Op}
use Rattle.pr_flat.specs.declared.equations.Op.TheVariants.{Input, Delay, Rec, Fit}
use Rattle.pr_flat.specs.declared.forms.Point.{Point}
use Rattle.pr_flat.specs.Shape.{EquationShape}
use Rattle.pr_flat.specs.Widths.{operand_width}
use Rattle.pr_flat.specs.Values.{operator_number}

-- whether an operation makes the same number of the same operands at each sample
abbrev pub is_steady : Op → Bool
is_steady Input = false
is_steady (Delay c) = false
is_steady (Rec init first) = false
is_steady op = true

-- the number of an operand that is a number or a known equation; `known` has the numbers of the equations before
abbrev pub known_operand : List (Option ℕ) → Operand → Option ℕ
known_operand known (Const c) = Some c
known_operand known (Eq i) = option_map_or (λ o. o) (slice_get known i) None
known_operand known (Past rec k) = None

-- an operand as it is read, where its number is known
abbrev pub known_point : Bool → ℕ → Option ℕ → Option Point
known_point kind width (Some n) = Some (record { form = record { signed = kind; width = width }; number = n })
known_point kind width None = None

-- one more point in front of points, where both are known
abbrev pub with_point : Bool → ℕ → Option ℕ → Option (List Point) → Option (List Point)
with_point kind width (Some n) (Some points) = Some (record { form = record { signed = kind; width = width }; number = n } ∷ points)
with_point kind width n points = None

-- operands as they are read, where all their numbers are known
abbrev pub known_points : List ℕ → List (Option ℕ) → List Operand → List Bool → Option (List Point)
known_points widths known [] kinds = Some []
known_points widths known (a ∷ args) [] = Some []
known_points widths known (a ∷ args) (kind ∷ kinds) = with_point kind (operand_width widths a) (known_operand known a) (known_points widths known args kinds)

-- this is the operand at a place as it is read, where its number is known
abbrev pub IsPointAt : List ℕ → List (Option ℕ) → EquationShape → ℕ → Option Point → Type 0
IsPointAt widths known e place point = (a : Operand) (kind : Bool) → slice_get e.args place ≡ Some a → slice_get e.kinds place ≡ Some kind → point ≡ known_point kind (operand_width widths a) (known_operand known a)

-- what an operator of w bits makes of its operands, where they are known
abbrev pub number_known : List ℕ → List (Option ℕ) → ℕ → EquationShape → Option ℕ
number_known widths known w e = option_map (operator_number w e.op) (known_points widths known e.args e.kinds)

-- a number of 64 bits
abbrev pub short : ℕ → Option ℕ
short n = cond (nat_lt n (2 ^ 64)) (Some n) None

-- the number of an equation of this width, where it is known
abbrev pub known_number : List ℕ → List (Option ℕ) → ℕ → EquationShape → Option ℕ
known_number widths known w e = cond (is_steady e.op) (option_map_or (λ points. short (operator_number w e.op points)) (known_points widths known e.args e.kinds) None) None

-- what is known of these equations, after what is known of those before them
abbrev pub known_after : List ℕ → List (Option ℕ) → List EquationShape → List (Option ℕ)
known_after widths known [] = known
known_after widths known (e ∷ rest) = known_after widths (known ++ known_number widths known (unwrap_or (slice_get widths (length known)) 0) e ∷ []) rest

abbrev pub known_of : List EquationShape → List ℕ → List (Option ℕ)
known_of equations widths = known_after widths [] equations

-- a number, as wide as the equation that it stands for
abbrev pub number_shape : ℕ → ℕ → EquationShape
number_shape n width = record { op = Fit; args = Const n ∷ []; declared = Some width; kinds = false ∷ [] }

-- an equation, with its number in its place where that is known
abbrev pub folded_shape : Option ℕ → ℕ → EquationShape → EquationShape
folded_shape None width e = e
folded_shape (Some n) width e = number_shape n width

abbrev pub folded_by : List (Option ℕ) → List ℕ → List EquationShape → List EquationShape
folded_by (o ∷ known) (w ∷ widths) (e ∷ equations) = folded_shape o w e ∷ folded_by known widths equations
folded_by known widths equations = []

-- the equations, folded
abbrev pub folded : List EquationShape → List ℕ → List EquationShape
folded equations widths = folded_by (known_of equations widths) widths equations
