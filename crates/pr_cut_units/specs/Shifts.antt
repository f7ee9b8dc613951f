-- Shifts by an operand, bit by bit of the amount.
use Rattle.std.specs.Prelude.{ℕ, ◌^◌, Bool, false, nat_lt, ◌&&◌, if◌then◌else◌, List}
use Rattle.pr_base.specs.Numbers.{slices_of}
use Rattle.pr_net.specs.declared.cells.Slice.{Slice}
use Rattle.pr_net.specs.declared.cells.Cell.{Cell}
use Rattle.pr_cut_units.specs.Cells.{plain, top, byte, bit_of, with_left, with_right, table_b_where_c}
use Rattle.pr_cut_units.specs.Parts.{Making, one_unit, in_turn, followed_by}
use Rattle.pr_cut_units.specs.Widening.{Argument, flipped}
use Rattle.pr_cut_units.specs.Operators.{extracted}

-- B is byte i of the value before, shifted by so many bits to one side
abbrev pub with_shift : Bool → List Slice → ℕ → ℕ → Cell → Cell
with_shift left before k i cell = if left then with_left before k i cell else with_right before k i cell

-- cell i of row j for w bits: where bit j of the amount is 1, the value before, shifted by 2^j bits; nothing is left of it where that is w or more
abbrev pub shift_cell : Bool → ℕ → List Slice → ℕ → List Slice → ℕ → Cell
shift_cell left w by j before i = let cell = record plain { a = byte before i; c = bit_of by j; table = table_b_where_c; mask = top w i } in
    if nat_lt j 7 && nat_lt (2 ^ j) w then with_shift left before (2 ^ j) i cell else cell

abbrev pub shift_row : Bool → ℕ → List Slice → ℕ → List Slice → Making
shift_row left w by j before = one_unit (slices_of w) (λ i. shift_cell left w by j before i)

-- all rows, one for each bit of the amount
abbrev pub shifted_by : Bool → ℕ → List Slice → ℕ → List Slice → Making
shifted_by left w by bits x = in_turn (shift_row left w by) 0 bits x

-- LeftBy(a, by) and RightBy(a, by) of an unsigned a
abbrev pub moved_by : Bool → ℕ → Argument → Argument → Making
moved_by left e a by = followed_by (shifted_by left a.form.width by.slices by.form.width a.slices) (λ x. extracted e a.form.width 0 x)

-- RightBy(a, by) of a signed a: a negative one is inverted before the rows, and after them again
abbrev pub flipped_back : ℕ → Argument → List Slice → Making
flipped_back e a y = followed_by (flipped a y) (λ z. extracted e a.form.width 0 z)

abbrev pub shifted_back : ℕ → Argument → Argument → List Slice → Making
shifted_back e a by x = followed_by (shifted_by false a.form.width by.slices by.form.width x) (λ y. flipped_back e a y)

abbrev pub signed_moved_by : ℕ → Argument → Argument → Making
signed_moved_by e a by = followed_by (flipped a a.slices) (λ x. shifted_back e a by x)
