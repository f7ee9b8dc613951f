-- Operands as they are read, and signed ones made wider.
use Rattle.std.specs.Prelude.{ℕ, ◌+◌, ◌-◌, ◌/◌, ◌%◌, ◌==◌, ◌&&◌, Bool, nat_lt, if◌then◌else◌, List, take}
use Rattle.pr_base.specs.Numbers.{slices_of, top_mask_of}
use Rattle.pr_flat.specs.declared.forms.Form.{Form}
use Rattle.pr_net.specs.declared.cells.Slice.{Slice}
use Rattle.pr_net.specs.declared.cells.Wire.{Wire}
use Rattle.pr_net.specs.declared.cells.WireBit.{WireBit}
use Rattle.pr_net.specs.declared.cells.Cell.{Cell}
use Rattle.pr_cut_units.specs.Cells.{plain, top, byte, bit_of, table_c, table_a_or_b_and_c, table_a_xor_c}
use Rattle.pr_cut_units.specs.Parts.{Making, kept, one_unit, above, followed_by}

-- an operand: its slices, its kind and its width
pub record Argument : Type 0 where
  pub slices : List Slice
  pub form : Form

-- slices read as an operand of this kind and width
abbrev pub read_as : Bool → ℕ → List Slice → Argument
read_as signed width slices = record { slices = slices; form = record { signed = signed; width = width } }

-- the highest bit of an operand
abbrev pub sign_of : Argument → WireBit
sign_of a = bit_of a.slices (a.form.width - 1)

-- cell i of Widen to t bits: the sign in every bit, but in the operand's top byte above it alone
abbrev pub widening_cell : Argument → ℕ → ℕ → Cell
widening_cell a t i =
    if i == a.form.width / 8 && nat_lt 0 (a.form.width % 8)
    then record plain { a = byte a.slices i; hi = Wire.Const (255 - top_mask_of a.form.width); c = sign_of a; table = table_a_or_b_and_c; mask = top t i }
    else record plain { c = sign_of a; table = table_c; mask = top t i }

-- Widen: an operand at t bits; an unsigned one, and one that is so wide, stays
abbrev pub widened : Argument → ℕ → Making
widened a t =
    if a.form.signed && nat_lt a.form.width t
    then above (take (a.form.width / 8) a.slices) (one_unit (slices_of t - a.form.width / 8) (λ i. widening_cell a t (a.form.width / 8 + i)))
    else kept a.slices

-- both operands at t bits, first the first
abbrev pub both_widened : ℕ → Argument → Argument → (List Slice → List Slice → Making) → Making
both_widened t a b making = followed_by (widened a t) (λ x. followed_by (widened b t) (λ y. making x y))

-- Flip: every bit of x where the operand is negative
abbrev pub flipped_cell : Argument → List Slice → ℕ → Cell
flipped_cell a x i = record plain { a = byte x i; c = sign_of a; table = table_a_xor_c; mask = top a.form.width i }

abbrev pub flipped : Argument → List Slice → Making
flipped a x = one_unit (slices_of a.form.width) (λ i. flipped_cell a x i)
