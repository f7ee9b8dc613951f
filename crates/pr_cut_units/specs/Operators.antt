-- Bitwise operators, sums, comparisons, and shifts by constants: e bits of each.
use Rattle.std.specs.Prelude.{ℕ, ◌+◌, ◌-◌, ◌/◌, ◌%◌, ◌==◌, ◌&&◌, ◌||◌, Bool, nat_lt, if◌then◌else◌, min, List, [], ◌∷◌}
use Rattle.pr_base.specs.Numbers.{slices_of}
use Rattle.pr_base.specs.declared.choices.Mode.{Mode}
use Rattle.pr_base.specs.declared.choices.Carry.{Carry}
use Rattle.pr_flat.specs.Forms.{wider, wider_signed}
use Rattle.pr_net.specs.declared.cells.Slice.{Slice}
use Rattle.pr_net.specs.declared.cells.Wire.{Wire}
use Rattle.pr_net.specs.declared.cells.Cell.{Cell}
use Rattle.pr_cut_units.specs.Cells.{plain, top, byte, bit_of, slice_at, slice_below, with_left, with_right, table_a, table_b, table_c, table_not_a, table_not_b, table_not_c, table_or, table_xor, table_a_where_c}
use Rattle.pr_cut_units.specs.Parts.{Making, each, kept, one_unit, followed_by}
use Rattle.pr_cut_units.specs.declared.chains.Style.{Style}
use Rattle.pr_cut_units.specs.Chains.{chain, closed_chain}
use Rattle.pr_cut_units.specs.Widening.{Argument, both_widened}

-- Input: bytes of the sample from an offset on
abbrev pub input_cell : ℕ → ℕ → ℕ → Cell
input_cell w offset i = record plain { a = Wire.Bus (offset + i); table = table_a; mask = top w i }

abbrev pub input_unit : ℕ → ℕ → Making
input_unit w offset = one_unit (slices_of w) (λ i. input_cell w offset i)

-- And, Or, Xor, by their tables
abbrev pub bitwise_cell : ℕ → ℕ → List Slice → List Slice → ℕ → Cell
bitwise_cell e table x y i = record plain { a = byte x i; hi = byte y i; table = table; mask = top e i }

abbrev pub bitwise : ℕ → ℕ → List Slice → List Slice → Making
bitwise e table x y = one_unit (slices_of e) (λ i. bitwise_cell e table x y i)

-- Not
abbrev pub inverted_cell : ℕ → List Slice → ℕ → Cell
inverted_cell e x i = record plain { a = byte x i; table = table_not_a; mask = top e i }

abbrev pub inverted : ℕ → List Slice → Making
inverted e x = one_unit (slices_of e) (λ i. inverted_cell e x i)

-- Choose, by the lowest bit of c
abbrev pub chosen_cell : ℕ → List Slice → List Slice → List Slice → ℕ → Cell
chosen_cell e c x y i = record plain { a = byte x i; hi = byte y i; c = bit_of c 0; table = table_a_where_c; mask = top e i }

abbrev pub chosen : ℕ → List Slice → List Slice → List Slice → Making
chosen e c x y = one_unit (slices_of e) (λ i. chosen_cell e c x y i)

-- a cell of a sum
abbrev pub sum_cell : ℕ → List Slice → List Slice → ℕ → Cell
sum_cell table x y i = record plain { a = byte x i; hi = byte y i; mode = Mode.Sum; table = table }

-- and one that shows no bit above the last of e
abbrev pub masked_cell : ℕ → ℕ → List Slice → List Slice → ℕ → Cell
masked_cell e table x y i = record (sum_cell table x y i) { mask = top e i }

-- Add, and Sub as the sum with the inverted bytes and 1
abbrev pub summed : ℕ → ℕ → Carry → List Slice → List Slice → Making
summed e table first x y = chain Style.ByBit first (each (slices_of e) (λ i. masked_cell e table x y i))

abbrev pub added : ℕ → List Slice → List Slice → Making
added e x y = summed e table_b Carry.Zero x y

abbrev pub subtracted : ℕ → List Slice → List Slice → Making
subtracted e x y = summed e table_not_b Carry.One x y

abbrev pub is_any_signed : Argument → Argument → Bool
is_any_signed a b = a.form.signed || b.form.signed

-- the carry that comes out of a difference, or its inverse
abbrev pub difference_carry : ℕ → ℕ → List Slice → List Slice → Making
difference_carry w closing x y = closed_chain Carry.One closing (each (slices_of w) (sum_cell table_not_b x y))

-- Less of unsigned operands: no carry comes out of the difference; GreaterEqual: one does
abbrev pub unsigned_less : ℕ → Argument → Argument → Making
unsigned_less closing a b = difference_carry (wider a.form b.form) closing a.slices b.slices

-- Less where one is signed: bit m of their difference, which is its sign; GreaterEqual: that bit inverted
abbrev pub sign_unit : ℕ → ℕ → List Slice → Making
sign_unit m table d = one_unit 1 (λ i. record plain { c = bit_of d m; table = table; mask = 1 })

abbrev pub difference_sign : ℕ → ℕ → List Slice → List Slice → Making
difference_sign m table x y = followed_by (subtracted (m + 1) x y) (sign_unit m table)

abbrev pub signed_less : ℕ → Argument → Argument → Making
signed_less table a b = let m = wider_signed a.form b.form in both_widened (m + 1) a b (λ x y. difference_sign m table x y)

abbrev pub less : Argument → Argument → Making
less a b = if is_any_signed a b then signed_less table_c a b else unsigned_less table_not_c a b

abbrev pub greater_equal : Argument → Argument → Making
greater_equal a b = if is_any_signed a b then signed_less table_not_c a b else unsigned_less table_c a b

-- Equal and NotEqual, by their closing tables: a carry goes through all cells where no bits differ
abbrev pub compared_width : Argument → Argument → ℕ
compared_width a b = if is_any_signed a b then wider_signed a.form b.form else wider a.form b.form

abbrev pub equal_cell : List Slice → List Slice → ℕ → Cell
equal_cell x y i = record plain { a = byte x i; hi = byte y i; mode = Mode.Zero; table = table_xor }

abbrev pub equal_at : ℕ → ℕ → List Slice → List Slice → Making
equal_at m closing x y = closed_chain Carry.One closing (each (slices_of m) (λ i. equal_cell x y i))

abbrev pub equal : ℕ → Argument → Argument → Making
equal closing a b = both_widened (compared_width a b) a b (λ x y. equal_at (compared_width a b) closing x y)

-- whether e of u bits end where the highest byte does, so that no byte has to be cut
abbrev pub ends_whole : ℕ → ℕ → Bool
ends_whole e u = e == u || e % 8 == 0

-- Left(k) of w bits
abbrev pub moved_left_cell : ℕ → ℕ → List Slice → ℕ → Cell
moved_left_cell e k x i = with_left x k i (record plain { table = table_b; mask = top e i })

abbrev pub moved_left : ℕ → ℕ → ℕ → List Slice → Making
moved_left e w k x =
    if k % 8 == 0 && ends_whole e (w + k)
    then kept (each (slices_of e) (λ i. slice_below x i (k / 8)))
    else one_unit (slices_of e) (λ i. moved_left_cell e k x i)

-- Extract(l) of w bits
abbrev pub extracted_cell : ℕ → ℕ → List Slice → ℕ → Cell
extracted_cell e l x i = with_right x l i (record plain { table = table_b; mask = top e i })

abbrev pub extracted : ℕ → ℕ → ℕ → List Slice → Making
extracted e w l x =
    if l % 8 == 0 && ends_whole (l + e) w
    then kept (each (slices_of e) (λ i. slice_at x (i + l / 8)))
    else one_unit (slices_of e) (λ i. extracted_cell e l x i)

-- Right(k)
abbrev pub moved_right : ℕ → ℕ → Argument → Making
moved_right e k a =
    if a.form.signed then extracted e a.form.width (min k (a.form.width - 1)) a.slices
    else if nat_lt k a.form.width then extracted e a.form.width k a.slices
    else kept (Slice.Const 0 ∷ [])

-- Cat(a, b): a above the k bits of b
abbrev pub joined_slice : ℕ → List Slice → List Slice → ℕ → Slice
joined_slice k x y i = if nat_lt i (k / 8) then slice_at y i else slice_below x i (k / 8)

abbrev pub joined_cell : ℕ → ℕ → List Slice → List Slice → ℕ → Cell
joined_cell e k x y i = with_left x k i (record plain { a = byte y i; table = table_or; mask = top e i })

abbrev pub concatenated : ℕ → Argument → Argument → Making
concatenated e a b =
    if b.form.width % 8 == 0 && ends_whole e (a.form.width + b.form.width)
    then kept (each (slices_of e) (λ i. joined_slice b.form.width a.slices b.slices i))
    else one_unit (slices_of e) (λ i. joined_cell e b.form.width a.slices b.slices i)
