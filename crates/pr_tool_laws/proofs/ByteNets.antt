-- All constants of the net of equations are bytes.
use Rattle.std.proofs.Common.{ℕ, zero, suc, ◌+◌, ◌-◌, ◌/◌, Bool, List, [], ◌∷◌, ◌++◌, length, map, slice_index, slice_index_or, arith}
use Rattle.std.specs.List.{range_with_len}
use Rattle.pr_base.specs.Numbers.{slices_of, bytes_of}
use Rattle.pr_flat.specs.declared.equations.Operand.{Operand}
use Rattle.pr_flat.specs.declared.equations.Op.{Op}
use Rattle.pr_flat.specs.Forms.{number_width}
use Rattle.pr_flat.specs.Shape.{EquationShape}
use Rattle.pr_net.specs.declared.cells.Slice.{Slice}
use Rattle.pr_net.specs.Whole.{SlicesAreBytes, OutputsAreBytes}
use Rattle.pr_net.specs.Shape.{NetShape}
use Rattle.pr_cut_units.specs.Parts.{each, kept}
use Rattle.pr_cut_units.specs.Widening.{Argument, widened}
use Rattle.pr_cut_units.specs.States.{delayed, hold_cell, later_cell, hold_units, held}
use Rattle.pr_cut_units.specs.Reached.{hold_count}
use Rattle.pr_cut_units.specs.Equations.{UnitPlan, plan_of, operand_slices, arguments, input_slices, equation_units, Cut, has_units, next_units, cut_next, cut_after, input_units, cut_start, cut_whole}
use Rattle.pr_cut_units.specs.Nets.{output_of, net_of}
use Rattle.pr_cut_units.proofs.Operands.{top_small}
use Rattle.pr_tool_laws.proofs.ByteParts.{zero_byte, byte_at, slices-each, AreByteUnits, cells-each, units-append, IsBytePart, kept_bytes, unit_bytes, then_bytes, either_bytes}
use Rattle.pr_tool_laws.proofs.ByteTable.{widened_bytes, HaveBytes, table_bytes}

-- ---- units with state
delayed_bytes : (u w c : ℕ) (x : List Slice) → SlicesAreBytes x → IsBytePart (delayed w c x u)
delayed_bytes u w c x h = unit_bytes u (slices_of w) _ (λ i. record { a = byte_at x i h; hi = tt; lo = zero_byte; c = tt; table = omega arith; mask = omega arith; init = omega arith })

later_bytes : (w init u a n : ℕ) → AreByteUnits (map (λ j. each (slices_of w) (later_cell init (u + j))) (range_with_len a n))
later_bytes w init u a zero = tt
later_bytes w init u a (suc n) = (
  cells-each (slices_of w) (later_cell init (u + a)) (λ i. record { a = tt; hi = zero_byte; lo = zero_byte; c = tt; table = omega arith; mask = omega arith; init = omega arith }),
  later_bytes w init u (a + 1) n,
)

hold_bytes : (u w init k : ℕ) (x : List Slice) → SlicesAreBytes x → IsBytePart (hold_units w init k x u)
hold_bytes u w init k x h = record {
  units = (
    cells-each (slices_of w) (hold_cell w init x) (λ i. record { a = byte_at x i h; hi = zero_byte; lo = zero_byte; c = tt; table = omega arith; mask = top_small w i; init = omega arith }),
    later_bytes w init u 0 (k - 1),
  );
  slices = slices-each (slices_of w) (λ i. Slice.Of u i) (λ i. tt);
}

held_bytes : (u w init k : ℕ) (body : Argument) → SlicesAreBytes body.slices → IsBytePart (held w init k body u)
held_bytes u w init k body h = then_bytes u (widened body w) (λ x. hold_units w init k x) (widened_bytes u body w h) (λ x v hx. hold_bytes v w init k x hx)

-- ---- equations
abbrev pub AreByteValues : List (List Slice) → Type 0
AreByteValues [] = Unit {0}
AreByteValues (x ∷ values) = SlicesAreBytes x × AreByteValues values

value_bytes : (values : List (List Slice)) (i : ℕ) → AreByteValues values → SlicesAreBytes (slice_index_or values i [])
value_bytes [] i h = tt
value_bytes (x ∷ values) zero h = h.0
value_bytes (x ∷ values) (suc i) h = value_bytes values i h.1

values_push : (values : List (List Slice)) (x : List Slice) → AreByteValues values → SlicesAreBytes x → AreByteValues (values ++ x ∷ [])
values_push [] x h k = (k, tt)
values_push (y ∷ values) x h k = (h.0, values_push values x h.1 k)

number_bytes : (k c : ℕ) → SlicesAreBytes (map (λ b. Slice.Const b) (bytes_of k c))
number_bytes zero c = tt
number_bytes (suc k) c = (omega arith, number_bytes k (c / 256))

operand_bytes : (plan : UnitPlan) (values : List (List Slice)) (a : Operand) → AreByteValues values → SlicesAreBytes (operand_slices plan values a)
operand_bytes plan values (Operand.Const c) h = number_bytes (slices_of (number_width c)) c
operand_bytes plan values (Operand.Eq i) h = value_bytes values i h
operand_bytes plan values (Operand.Past rec k) h = slices-each _ _ (λ i. tt)

arguments_bytes : (plan : UnitPlan) (values : List (List Slice)) (args : List Operand) (kinds : List Bool) → AreByteValues values → HaveBytes (arguments plan values args kinds)
arguments_bytes plan values [] kinds h = tt
arguments_bytes plan values (a ∷ args) [] h = tt
arguments_bytes plan values (a ∷ args) (kind ∷ kinds) h = (operand_bytes plan values a h, arguments_bytes plan values args kinds h)

equation_bytes : (plan : UnitPlan) (i u : ℕ) (op : Op) (args : List Argument) → HaveBytes args → IsBytePart (equation_units plan i op args u)
equation_bytes plan i u Op.Input args h = kept_bytes u (input_slices plan i) (slices-each _ _ (λ j. tt))
equation_bytes plan i u (Op.Delay c) (x ∷ []) h = delayed_bytes u (slice_index plan.widths i) c x.slices h.0
equation_bytes plan i u (Op.Rec init first) (body ∷ []) h = held_bytes u (slice_index plan.widths i) init (hold_count plan.equations i) body h.0
equation_bytes plan i u op args h = table_bytes u (slice_index plan.widths i) op args h

-- ---- the fold
record IsByteCut (cut : Cut) : Type 0 where
  units : AreByteUnits cut.units
  values : AreByteValues cut.values

next_bytes : (plan : UnitPlan) (cut : Cut) (e : EquationShape) → IsByteCut cut → IsByteCut (cut_next plan cut e)
next_bytes plan cut e g =
    let i : ℕ = length cut.values in
    let n : ℕ = length cut.units in
    let args = arguments plan cut.values e.args e.kinds in
    let p : IsBytePart (next_units plan cut e n) = either_bytes n (has_units plan i e) (equation_units plan i e.op args) (kept []) (equation_bytes plan i n e.op args (arguments_bytes plan cut.values e.args e.kinds g.values)) (kept_bytes n [] tt) in
    record {
      units = units-append cut.units (next_units plan cut e n).units g.units p.units;
      values = values_push cut.values (next_units plan cut e n).slices g.values p.slices;
    }

rest_bytes : (plan : UnitPlan) (cut : Cut) (rest : List EquationShape) → IsByteCut cut → IsByteCut (cut_after plan cut rest)
rest_bytes plan cut [] g = g
rest_bytes plan cut (e ∷ rest) g = rest_bytes plan (cut_next plan cut e) rest (next_bytes plan cut e g)

input_bytes : (offset : ℕ) (widths : List ℕ) → AreByteUnits (input_units offset widths)
input_bytes offset [] = tt
input_bytes offset (w ∷ widths) = (
  cells-each (slices_of w) _ (λ i. record { a = tt; hi = zero_byte; lo = zero_byte; c = tt; table = omega arith; mask = top_small w i; init = omega arith }),
  input_bytes (offset + slices_of w) widths,
)

whole_bytes : (plan : UnitPlan) → IsByteCut (cut_whole plan)
whole_bytes plan = rest_bytes plan (cut_start plan.equations) plan.equations (record { units = input_bytes 0 _; values = tt })

-- ---- the net
pub record IsByteNet (net : NetShape) : Type 0 where
  pub units : AreByteUnits net.units
  pub outputs : OutputsAreBytes net.outputs

outputs_bytes : (plan : UnitPlan) (values : List (List Slice)) (os : List Operand) → AreByteValues values → OutputsAreBytes (map (output_of plan values) os)
outputs_bytes plan values [] h = tt
outputs_bytes plan values (a ∷ os) h = (operand_bytes plan values a h, outputs_bytes plan values os h)

pub net_bytes : (equations : List EquationShape) (widths : List ℕ) (outputs : List Operand) → IsByteNet (net_of equations widths outputs)
unfolding net_of
net_bytes equations widths outputs =
    let plan = plan_of equations widths outputs in
    let whole = whole_bytes plan in
    record { units = whole.units; outputs = outputs_bytes plan (cut_whole plan).values outputs whole.values }
