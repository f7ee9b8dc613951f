-- What equations make of samples: row by row, one number for each equation, and each equation's list.
use Rattle.std.specs.Prelude.{ℕ, ◌-◌, Bool, List, [], ◌∷◌, ◌++◌, length, map, take, slice_index, count_by, ◌<◌, ◌^◌, cond, unwrap_or}
use Rattle.std.specs.List.{slice_get}
use Rattle.std.specs.Option.{option_map_or}
use Rattle.pr_flat.specs.declared.equations.Operand.{Operand}
use Rattle.pr_flat.specs.declared.equations.Operand.TheVariants.{Const, Eq, Past}
use Rattle.pr_flat.specs.declared.equations.Op.{Op}
use Rattle.pr_flat.specs.declared.equations.Op.TheVariants.{Input, Delay, Rec}
use Rattle.pr_flat.specs.declared.forms.Point.{Point}
use Rattle.pr_flat.specs.Forms.{value, value_at, residue}
use Rattle.pr_flat.specs.Rows.{forms_of, natural_form, natural_number}
use Rattle.pr_flat.specs.Shape.{EquationShape}
use Rattle.pr_flat.specs.Facts.{is_input}
use Rattle.pr_flat.specs.Widths.{operand_width}

abbrev pub init_of : Op → ℕ
init_of (Rec init first) = init
init_of op = 0

-- the number that a recurrence begins with
abbrev pub initial_of : List EquationShape → ℕ → ℕ
initial_of equations rec = option_map_or (λ (e : EquationShape). init_of e.op) (slice_get equations rec) 0

-- the number of equation i so many rows before; the latest row stands first
abbrev pub number_before : List (List ℕ) → ℕ → ℕ → ℕ → ℕ
number_before before i k initial = option_map_or (λ row. slice_index row i) (slice_get before (k - 1)) initial

-- an operand's number, by the rows before and the numbers of this row
abbrev pub operand_number : List EquationShape → List (List ℕ) → List ℕ → Operand → ℕ
operand_number equations before row (Const c) = c
operand_number equations before row (Eq i) = slice_index row i
operand_number equations before row (Past rec k) = number_before before rec k (initial_of equations rec)

-- an operand's number one row earlier, and this one in the first row
abbrev pub delayed_number : List EquationShape → List (List ℕ) → Operand → ℕ → ℕ
delayed_number equations [] a c = c
delayed_number equations (row ∷ before) a c = operand_number equations before row a

-- what an equation sees: all equations and their widths, the rows before, the sample, and the numbers of the equations before it
pub record Sight : Type 0 where
  pub equations : List EquationShape
  pub widths : List ℕ
  pub before : List (List ℕ)
  pub sample : List ℕ
  pub row : List ℕ

-- operands as they are read
abbrev pub points_in : Sight → List Operand → List Bool → List Point
points_in sight (a ∷ args) (kind ∷ kinds) = record { form = record { signed = kind; width = operand_width sight.widths a }; number = operand_number sight.equations sight.before sight.row a } ∷ points_in sight args kinds
points_in sight args kinds = []

-- the number of an operator, reduced to w bits
abbrev pub operator_number : ℕ → Op → List Point → ℕ
operator_number w op points = residue w (value (natural_form op (forms_of points)) (natural_number op points))

-- the number of a recurrence: its body's, reduced to w bits
abbrev pub recurrence_number : ℕ → List Point → ℕ
recurrence_number w (p ∷ points) = residue w (value_at p)
recurrence_number w [] = 0

abbrev pub first_delayed : Sight → List Operand → ℕ → ℕ
first_delayed sight (a ∷ args) c = delayed_number sight.equations sight.before a c
first_delayed sight [] c = c

-- an equation's number; an input takes the next number of the sample
abbrev pub number_in : Sight → ℕ → Op → List Operand → List Bool → ℕ
number_in sight i Input args kinds = slice_index sight.sample (count_by (λ (e : EquationShape). is_input e.op) (take i sight.equations))
number_in sight i (Delay c) args kinds = first_delayed sight args c
number_in sight i (Rec init first) args kinds = recurrence_number (slice_index sight.widths i) (points_in sight args kinds)
number_in sight i op args kinds = operator_number (slice_index sight.widths i) op (points_in sight args kinds)

-- the numbers of these equations after those of the equations before them
abbrev pub row_after : Sight → List EquationShape → List ℕ
row_after sight [] = sight.row
row_after sight (e ∷ rest) = row_after (record sight { row = sight.row ++ number_in sight (length sight.row) e.op e.args e.kinds ∷ [] }) rest

-- a row: the number of each equation at one sample
abbrev pub row_of : List EquationShape → List ℕ → List (List ℕ) → List ℕ → List ℕ
row_of equations widths before sample = row_after (record { equations = equations; widths = widths; before = before; sample = sample; row = [] }) equations

-- what all equations see together once their row is made
abbrev pub seen_in : List EquationShape → List ℕ → List (List ℕ) → List ℕ → Sight
seen_in equations widths before sample = record { equations = equations; widths = widths; before = before; sample = sample; row = row_of equations widths before sample }

-- a row for each sample, after the rows before
abbrev pub rows_after : List EquationShape → List ℕ → List (List ℕ) → List (List ℕ) → List (List ℕ)
rows_after equations widths before [] = []
rows_after equations widths before (sample ∷ samples) = let row = row_of equations widths before sample in row ∷ rows_after equations widths (row ∷ before) samples

abbrev pub rows_of : List EquationShape → List ℕ → List (List ℕ) → List (List ℕ)
rows_of equations widths samples = rows_after equations widths [] samples

-- the list of equation i
abbrev pub list_of : List EquationShape → List ℕ → List (List ℕ) → ℕ → List ℕ
list_of equations widths samples i = map (λ row. slice_index row i) (rows_of equations widths samples)

-- the list of an output
abbrev pub output_list : List EquationShape → List ℕ → List (List ℕ) → Operand → List ℕ
output_list equations widths samples output = map (λ row. operand_number equations [] row output) (rows_of equations widths samples)

-- a row has for each equation a number with the bits of its width
abbrev pub HaveWidths : List ℕ → List ℕ → Type 0
HaveWidths widths row = (i : ℕ) → i < length widths → slice_index row i < 2 ^ slice_index widths i

-- the declared width of each input, in order
abbrev pub input_widths : List EquationShape → List ℕ
input_widths [] = []
input_widths (e ∷ equations) = cond (is_input e.op) (unwrap_or e.declared 0 ∷ input_widths equations) (input_widths equations)
