-- The units of all equations, one equation after the other.
use Rattle.std.specs.Prelude.{ℕ, suc, ◌+◌, ◌-◌, ◌||◌, Bool, false, if◌then◌else◌, List, [], ◌∷◌, ◌++◌, length, map, take, slice_index, slice_index_or, count_by}
use Rattle.std.specs.List.{slice_get, sum}
use Rattle.std.specs.Option.{option_map_or}
use Rattle.pr_base.specs.Numbers.{slices_of, bytes_of}
use Rattle.pr_flat.specs.declared.equations.Operand.{Operand}
use Rattle.pr_flat.specs.declared.equations.Op.{Op}
use Rattle.pr_flat.specs.Forms.{number_width}
use Rattle.pr_flat.specs.Shape.{EquationShape}
use Rattle.pr_flat.specs.Facts.{is_input}
use Rattle.pr_flat.specs.Widths.{operand_width, forms_in}
use Rattle.pr_flat.specs.Values.{input_widths}
use Rattle.pr_net.specs.declared.cells.Slice.{Slice}
use Rattle.pr_net.specs.declared.cells.Cell.{Cell}
use Rattle.pr_cut_units.specs.Parts.{Making, each, kept}
use Rattle.pr_cut_units.specs.Widening.{Argument}
use Rattle.pr_cut_units.specs.Operators.{input_unit}
use Rattle.pr_cut_units.specs.States.{delayed, held, past_slices}
use Rattle.pr_cut_units.specs.Table.{units_at}
use Rattle.pr_cut_units.specs.Counts.{count_at, body_count}
use Rattle.pr_cut_units.specs.Reached.{reached, hold_count}

-- how many units equation i has, beside those of the inputs, which stand before all others
abbrev pub own_count : List EquationShape → List ℕ → ℕ → EquationShape → Op → ℕ
own_count equations widths i e Op.Input = 0
own_count equations widths i e (Op.Delay c) = 1
own_count equations widths i e (Op.Rec init first) = body_count (slice_index widths i) (forms_in widths e) + hold_count equations i
own_count equations widths i e op = count_at (slice_index widths i) op (forms_in widths e)

-- the counts of these equations, from number i on: only one that counts has units
abbrev pub counts_from : List EquationShape → List ℕ → ℕ → List EquationShape → List Bool → List ℕ
counts_from equations widths i [] flags = []
counts_from equations widths i (e ∷ rest) [] = []
counts_from equations widths i (e ∷ rest) (counts ∷ flags) = (if counts then own_count equations widths i e e.op else 0) ∷ counts_from equations widths (suc i) rest flags

-- what units are made by: the equations with their widths, which of them an output can be reached from, and how many units each has
pub record UnitPlan : Type 0 where
  pub equations : List EquationShape
  pub widths : List ℕ
  pub reached : List Bool
  pub counts : List ℕ

abbrev pub plan_of : List EquationShape → List ℕ → List Operand → UnitPlan
plan_of equations widths outputs = record {
  equations = equations;
  widths = widths;
  reached = reached equations outputs;
  counts = counts_from equations widths 0 equations (reached equations outputs);
}

-- the units of all inputs and equations
abbrev pub all_units : UnitPlan → ℕ
all_units plan = count_by (λ (e : EquationShape). is_input e.op) plan.equations + sum plan.counts

-- the number of the first unit of equation i, and of the first hold unit of a recurrence
abbrev pub first_unit : UnitPlan → ℕ → ℕ
first_unit plan i = count_by (λ (e : EquationShape). is_input e.op) plan.equations + sum (take i plan.counts)

abbrev pub hold_unit : UnitPlan → ℕ → ℕ
hold_unit plan rec = first_unit plan rec + option_map_or (λ (e : EquationShape). body_count (slice_index plan.widths rec) (forms_in plan.widths e)) (slice_get plan.equations rec) 0

-- the slices of a number
abbrev pub number_slices : ℕ → List Slice
number_slices c = map (λ b. Slice.Const b) (bytes_of (slices_of (number_width c)) c)

-- the slices of an operand, where the equations have these; a past has the states of a hold unit, which may be made later
abbrev pub operand_slices : UnitPlan → List (List Slice) → Operand → List Slice
operand_slices plan values (Operand.Const c) = number_slices c
operand_slices plan values (Operand.Eq i) = slice_index_or values i []
operand_slices plan values (Operand.Past rec k) = past_slices (slice_index plan.widths rec) (hold_unit plan rec + (k - 1))

-- operands as they are read
abbrev pub arguments : UnitPlan → List (List Slice) → List Operand → List Bool → List Argument
arguments plan values (a ∷ args) (kind ∷ kinds) = record { slices = operand_slices plan values a; form = record { signed = kind; width = operand_width plan.widths a } } ∷ arguments plan values args kinds
arguments plan values args kinds = []

-- the slices of equation i, an input: its unit has the number of the inputs before it
abbrev pub input_slices : UnitPlan → ℕ → List Slice
input_slices plan i = each (slices_of (slice_index plan.widths i)) (λ j. Slice.Of (count_by (λ (e : EquationShape). is_input e.op) (take i plan.equations)) j)

-- the units of equation i
abbrev pub equation_units : UnitPlan → ℕ → Op → List Argument → Making
equation_units plan i Op.Input args = kept (input_slices plan i)
equation_units plan i (Op.Delay c) (x ∷ []) = delayed (slice_index plan.widths i) c x.slices
equation_units plan i (Op.Rec init first) (body ∷ []) = held (slice_index plan.widths i) init (hold_count plan.equations i) body
equation_units plan i op args = units_at (slice_index plan.widths i) op args

-- the units so far, and the slices of each equation so far
pub record Cut : Type 0 where
  pub units : List (List Cell)
  pub values : List (List Slice)

-- an input, or an equation from which an output can be reached
abbrev pub has_units : UnitPlan → ℕ → EquationShape → Bool
has_units plan i e = is_input e.op || slice_index_or plan.reached i false

abbrev pub next_units : UnitPlan → Cut → EquationShape → Making
next_units plan cut e =
    let i = length cut.values in
    if has_units plan i e then equation_units plan i e.op (arguments plan cut.values e.args e.kinds) else kept []

-- one more equation
abbrev pub cut_next : UnitPlan → Cut → EquationShape → Cut
cut_next plan cut e =
    let p = next_units plan cut e (length cut.units) in
    record { units = cut.units ++ p.units; values = cut.values ++ p.slices ∷ [] }

abbrev pub cut_after : UnitPlan → Cut → List EquationShape → Cut
cut_after plan cut [] = cut
cut_after plan cut (e ∷ rest) = cut_after plan (cut_next plan cut e) rest

-- the units of inputs of these widths, whose bytes stand in the sample from this offset on
abbrev pub input_units : ℕ → List ℕ → List (List Cell)
input_units offset [] = []
input_units offset (w ∷ widths) = (input_unit w offset 0).units ++ input_units (offset + slices_of w) widths

abbrev pub cut_start : List EquationShape → Cut
cut_start equations = record { units = input_units 0 (input_widths equations); values = [] }

abbrev pub cut_whole : UnitPlan → Cut
cut_whole plan = cut_after plan (cut_start plan.equations) plan.equations
