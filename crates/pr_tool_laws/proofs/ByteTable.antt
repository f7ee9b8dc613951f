-- Every row of the table of units makes parts whose constants are bytes.
use Rattle.std.proofs.Common.{◌<◌, ℕ, ◌+◌, ◌-◌, ◌/◌, ◌%◌, ◌^◌, ◌==◌, ◌&&◌, Bool, true, false, List, [], ◌∷◌, nat_lt, take, min, arith}
use Rattle.std.specs.Bool.{if◌then◌else◌}
use Rattle.pr_base.specs.Numbers.{slices_of, top_mask_of}
use Rattle.pr_base.specs.declared.choices.Mode.{Mode}
use Rattle.pr_base.specs.declared.choices.Carry.{Carry}
use Rattle.pr_flat.specs.declared.equations.Op.{Op}
use Rattle.pr_flat.specs.Forms.{wider, wider_signed}
use Rattle.pr_flat.specs.Rows.{gives_signed}
use Rattle.pr_net.specs.declared.cells.Slice.{Slice}
use Rattle.pr_net.specs.declared.cells.Wire.{Wire}
use Rattle.pr_net.specs.declared.cells.Cell.{Cell}
use Rattle.pr_net.specs.Shape.{wire_of}
use Rattle.pr_net.specs.Order.{IsByte}
use Rattle.pr_net.specs.Whole.{SlicesAreBytes}
use Rattle.pr_cut_units.specs.Cells.{plain, top, byte, bit_of, slice_at, slice_below, table_b, table_c, table_not_c, table_and, table_or, table_xor, table_b_where_c}
use Rattle.pr_cut_units.specs.Parts.{Making, each, kept, one_unit, followed_by, above}
use Rattle.pr_cut_units.specs.declared.chains.Style.{Style}
use Rattle.pr_cut_units.specs.Chains.{chain}
use Rattle.pr_cut_units.specs.Widening.{Argument, sign_of, widening_cell, widened, both_widened, flipped}
use Rattle.pr_cut_units.specs.Operators.{bitwise, inverted, chosen, summed, added, subtracted, is_any_signed, unsigned_less, sign_unit, difference_sign, signed_less, less, greater_equal, compared_width, equal_at, equal, ends_whole, moved_left, extracted, moved_right, concatenated}
use Rattle.pr_cut_units.specs.Products.{row_width, row_cell, product_row, product}
use Rattle.pr_cut_units.specs.Shifts.{with_shift, shift_cell, shift_row, shifted_by, moved_by, signed_moved_by, shifted_back, flipped_back}
use Rattle.pr_cut_units.specs.Table.{operator_units, units_at, argument_forms, computed_bits, factor_width}
use Rattle.pr_cut_units.proofs.Operands.{top_small}
use Rattle.pr_tool_laws.proofs.ByteParts.{zero_byte, byte_at, byte_under, slices-take, slices-each, IsByteCell, cells-each, left_bytes, right_bytes, IsBytePart, kept_bytes, unit_bytes, then_bytes, above_bytes, filled_bytes, turns_bytes, either_bytes, chain_bytes, closed_bytes}

-- ---- widening
widening_bytes : (a : Argument) (t i : ℕ) → SlicesAreBytes a.slices → IsByteCell (widening_cell a t i)
widening_bytes a t i h = elim (i == a.form.width / 8 && nat_lt 0 (a.form.width % 8)) as (λ b. IsByteCell (if b
    then record plain { a = byte a.slices i; hi = Wire.Const (255 - top_mask_of a.form.width); c = sign_of a; table = 234; mask = top t i }
    else record plain { c = sign_of a; table = table_c; mask = top t i })) [
      | true ↦ record { a = byte_at a.slices i h; hi = omega arith; lo = zero_byte; c = byte_at a.slices ((a.form.width - 1) / 8) h; table = omega arith; mask = top_small t i; init = omega arith }
      | false ↦ record { a = zero_byte; hi = zero_byte; lo = zero_byte; c = byte_at a.slices ((a.form.width - 1) / 8) h; table = omega arith; mask = top_small t i; init = omega arith }
    ]

pub widened_bytes : (u : ℕ) (a : Argument) (t : ℕ) → SlicesAreBytes a.slices → IsBytePart (widened a t u)
widened_bytes u a t h =
    let cell = λ (i : ℕ). widening_cell a t (a.form.width / 8 + i) in
    let unit : Making = one_unit (slices_of t - a.form.width / 8) cell in
    elim (a.form.signed && nat_lt a.form.width t) as (λ b. let m : Making = if b then above (take (a.form.width / 8) a.slices) unit else kept a.slices in IsBytePart (m u)) [
      | true ↦ above_bytes u (take (a.form.width / 8) a.slices) unit (slices-take (a.form.width / 8) a.slices h) (unit_bytes u (slices_of t - a.form.width / 8) cell (λ i. widening_bytes a t (a.form.width / 8 + i) h))
      | false ↦ kept_bytes u a.slices h
    ]

-- an operation of two values
pub record IsBytePair (making : List Slice → List Slice → Making) : Type 0 where
  pub at : (u : ℕ) (x y : List Slice) → SlicesAreBytes x → SlicesAreBytes y → IsBytePart (making x y u)

both_bytes : (u t : ℕ) (a b : Argument) (making : List Slice → List Slice → Making) → IsBytePair making → SlicesAreBytes a.slices → SlicesAreBytes b.slices → IsBytePart (both_widened t a b making u)
both_bytes u t a b making g ha hb =
    then_bytes u (widened a t) (λ x. followed_by (widened b t) (λ y. making x y)) (widened_bytes u a t ha)
    (λ x v hx. then_bytes v (widened b t) (λ y. making x y) (widened_bytes v b t hb) (λ y w hy. g.at w x y hx hy))

-- ---- operators
bitwise_bytes : (e table : ℕ) → table < 256 → IsBytePair (bitwise e table)
bitwise_bytes e table l = record {
  at = λ u x y hx hy. unit_bytes u (slices_of e) _ (λ i. record { a = byte_at x i hx; hi = byte_at y i hy; lo = zero_byte; c = tt; table = l; mask = top_small e i; init = omega arith });
}

chosen_bytes : (e : ℕ) (c : List Slice) → SlicesAreBytes c → IsBytePair (chosen e c)
chosen_bytes e c hc = record {
  at = λ u x y hx hy. unit_bytes u (slices_of e) _ (λ i. record { a = byte_at x i hx; hi = byte_at y i hy; lo = zero_byte; c = byte_at c (0 / 8) hc; table = omega arith; mask = top_small e i; init = omega arith });
}

inverted_bytes : (u e : ℕ) (x : List Slice) → SlicesAreBytes x → IsBytePart (inverted e x u)
inverted_bytes u e x h = unit_bytes u (slices_of e) _ (λ i. record { a = byte_at x i h; hi = zero_byte; lo = zero_byte; c = tt; table = omega arith; mask = top_small e i; init = omega arith })

summed_bytes : (e table : ℕ) (first : Carry) → table < 256 → IsBytePair (summed e table first)
summed_bytes e table first l = record {
  at = λ u x y hx hy. chain_bytes u Style.ByBit first _ (cells-each (slices_of e) _ (λ i. record { a = byte_at x i hx; hi = byte_at y i hy; lo = zero_byte; c = tt; table = l; mask = top_small e i; init = omega arith }));
}

unsigned_less_bytes : (u closing : ℕ) (a b : Argument) → closing < 256 → SlicesAreBytes a.slices → SlicesAreBytes b.slices → IsBytePart (unsigned_less closing a b u)
unsigned_less_bytes u closing a b l ha hb = closed_bytes u Carry.One closing _ l (cells-each (slices_of (wider a.form b.form)) _ (λ i. record { a = byte_at a.slices i ha; hi = byte_at b.slices i hb; lo = zero_byte; c = tt; table = omega arith; mask = omega arith; init = omega arith }))

sign_bytes : (u m table : ℕ) (d : List Slice) → table < 256 → SlicesAreBytes d → IsBytePart (sign_unit m table d u)
sign_bytes u m table d l h = unit_bytes u 1 (λ i. record plain { c = bit_of d m; table = table; mask = 1 }) (λ i. record { a = zero_byte; hi = zero_byte; lo = zero_byte; c = byte_at d (m / 8) h; table = l; mask = omega arith; init = omega arith })

signed_less_bytes : (u table : ℕ) (a b : Argument) → table < 256 → SlicesAreBytes a.slices → SlicesAreBytes b.slices → IsBytePart (signed_less table a b u)
signed_less_bytes u table a b l ha hb =
    let m = wider_signed a.form b.form in
    both_bytes u (m + 1) a b (λ x y. difference_sign m table x y)
    (record { at = λ v x y hx hy. then_bytes v (subtracted (m + 1) x y) (sign_unit m table) ((summed_bytes (m + 1) 51 Carry.One (omega arith)).at v x y hx hy) (λ d w hd. sign_bytes w m table d l hd) }) ha hb

less_bytes : (u : ℕ) (a b : Argument) → SlicesAreBytes a.slices → SlicesAreBytes b.slices → IsBytePart (less a b u)
less_bytes u a b ha hb = either_bytes u (is_any_signed a b) (signed_less table_c a b) (unsigned_less table_not_c a b) (signed_less_bytes u table_c a b (omega arith) ha hb) (unsigned_less_bytes u table_not_c a b (omega arith) ha hb)

greater_equal_bytes : (u : ℕ) (a b : Argument) → SlicesAreBytes a.slices → SlicesAreBytes b.slices → IsBytePart (greater_equal a b u)
greater_equal_bytes u a b ha hb = either_bytes u (is_any_signed a b) (signed_less table_not_c a b) (unsigned_less table_c a b) (signed_less_bytes u table_not_c a b (omega arith) ha hb) (unsigned_less_bytes u table_c a b (omega arith) ha hb)

equal_bytes : (u closing : ℕ) (a b : Argument) → closing < 256 → SlicesAreBytes a.slices → SlicesAreBytes b.slices → IsBytePart (equal closing a b u)
equal_bytes u closing a b l ha hb =
    let m = compared_width a b in
    both_bytes u m a b (λ x y. equal_at m closing x y)
    (record { at = λ v x y hx hy. closed_bytes v Carry.One closing _ l (cells-each (slices_of m) _ (λ i. record { a = byte_at x i hx; hi = byte_at y i hy; lo = zero_byte; c = tt; table = omega arith; mask = omega arith; init = omega arith })) }) ha hb

plain_bytes : (table e i : ℕ) → table < 256 → IsByteCell (record plain { table = table; mask = top e i })
plain_bytes table e i l = record { a = zero_byte; hi = zero_byte; lo = zero_byte; c = tt; table = l; mask = top_small e i; init = omega arith }

moved_left_bytes : (u e w k : ℕ) (x : List Slice) → SlicesAreBytes x → IsBytePart (moved_left e w k x u)
moved_left_bytes u e w k x h = either_bytes u (k % 8 == 0 && ends_whole e (w + k)) _ _
    (kept_bytes u _ (slices-each (slices_of e) _ (λ i. byte_under x i (k / 8) h)))
    (unit_bytes u (slices_of e) _ (λ i. left_bytes x k i _ h (plain_bytes table_b e i (omega arith))))

extracted_bytes : (u e w l : ℕ) (x : List Slice) → SlicesAreBytes x → IsBytePart (extracted e w l x u)
extracted_bytes u e w l x h = either_bytes u (l % 8 == 0 && ends_whole (l + e) w) _ _
    (kept_bytes u _ (slices-each (slices_of e) _ (λ i. byte_at x (i + l / 8) h)))
    (unit_bytes u (slices_of e) _ (λ i. right_bytes x l i _ h (plain_bytes table_b e i (omega arith))))

moved_right_bytes : (u e k : ℕ) (a : Argument) → SlicesAreBytes a.slices → IsBytePart (moved_right e k a u)
moved_right_bytes u e k a h = either_bytes u a.form.signed _ _ (extracted_bytes u e a.form.width (min k (a.form.width - 1)) a.slices h)
    (either_bytes u (nat_lt k a.form.width) _ _ (extracted_bytes u e a.form.width k a.slices h) (kept_bytes u (Slice.Const 0 ∷ []) (zero_byte, tt)))

concatenated_bytes : (u e : ℕ) (a b : Argument) → SlicesAreBytes a.slices → SlicesAreBytes b.slices → IsBytePart (concatenated e a b u)
concatenated_bytes u e a b ha hb = either_bytes u (b.form.width % 8 == 0 && ends_whole e (a.form.width + b.form.width)) _ _
    (kept_bytes u _ (slices-each (slices_of e) _ (λ i. elim (nat_lt i (b.form.width / 8)) as (λ t. IsByte (wire_of (if t then slice_at b.slices i else slice_below a.slices i (b.form.width / 8)))) [ true ↦ byte_at b.slices i hb | false ↦ byte_under a.slices i (b.form.width / 8) ha ])))
    (unit_bytes u (slices_of e) _ (λ i. left_bytes a.slices b.form.width i (record plain { a = byte b.slices i; table = table_or; mask = top e i }) ha
    (record { a = byte_at b.slices i hb; hi = zero_byte; lo = zero_byte; c = tt; table = omega arith; mask = top_small e i; init = omega arith })))

-- ---- products
row_bytes : (e w : ℕ) (a b : List Slice) (j u : ℕ) (before : List Slice) → SlicesAreBytes a → SlicesAreBytes b → SlicesAreBytes before → IsBytePart (product_row e w a b j before u)
row_bytes e w a b j u before ha hb h = above_bytes u (take (j / 8) before) (chain Style.ByEntry Carry.Zero (each (slices_of (row_width e w j) - j / 8) (λ i. row_cell e w a b j before (j / 8 + i)))) (slices-take (j / 8) before h)
    (chain_bytes u Style.ByEntry Carry.Zero _ (cells-each (slices_of (row_width e w j) - j / 8) _ (λ i. left_bytes a j (j / 8 + i) (record plain { a = byte before (j / 8 + i); c = bit_of b j; mode = Mode.Sum; table = 192; mask = top (row_width e w j) (j / 8 + i) }) ha
    (record { a = byte_at before (j / 8 + i) h; hi = zero_byte; lo = zero_byte; c = byte_at b (j / 8) hb; table = omega arith; mask = top_small (row_width e w j) (j / 8 + i); init = omega arith }))))

product_bytes : (u e : ℕ) (a : List Slice) (wa : ℕ) (b : List Slice) (wb : ℕ) → SlicesAreBytes a → SlicesAreBytes b → IsBytePart (product e a wa b wb u)
product_bytes u e a wa b wb ha hb = turns_bytes u 0 (min wb e) (product_row e wa a b) [] (λ j v x h. row_bytes e wa a b j v x ha hb h) tt

-- ---- variable shifts
shift_cell_bytes : (left : Bool) (w : ℕ) (by : List Slice) (j : ℕ) (before : List Slice) (i : ℕ) → SlicesAreBytes by → SlicesAreBytes before → IsByteCell (shift_cell left w by j before i)
shift_cell_bytes left w by j before i hb h =
    let cell : Cell = record plain { a = byte before i; c = bit_of by j; table = table_b_where_c; mask = top w i } in
    let g : IsByteCell cell = record { a = byte_at before i h; hi = zero_byte; lo = zero_byte; c = byte_at by (j / 8) hb; table = omega arith; mask = top_small w i; init = omega arith } in
    elim (nat_lt j 7 && nat_lt (2 ^ j) w) as (λ t. IsByteCell (if t then with_shift left before (2 ^ j) i cell else cell)) [
      | true ↦ elim left as (λ t. IsByteCell (with_shift t before (2 ^ j) i cell)) [ true ↦ left_bytes before (2 ^ j) i cell h g | false ↦ right_bytes before (2 ^ j) i cell h g ]
      | false ↦ g
    ]

shifted_bytes : (u : ℕ) (left : Bool) (w : ℕ) (by : List Slice) (bits : ℕ) (x : List Slice) → SlicesAreBytes by → SlicesAreBytes x → IsBytePart (shifted_by left w by bits x u)
shifted_bytes u left w by bits x hb h = turns_bytes u 0 bits (shift_row left w by) x (λ j v y k. unit_bytes v (slices_of w) _ (λ i. shift_cell_bytes left w by j y i hb k)) h

moved_by_bytes : (u : ℕ) (left : Bool) (e : ℕ) (a by : Argument) → SlicesAreBytes a.slices → SlicesAreBytes by.slices → IsBytePart (moved_by left e a by u)
moved_by_bytes u left e a by ha hb =
    then_bytes u (shifted_by left a.form.width by.slices by.form.width a.slices) (λ x. extracted e a.form.width 0 x) (shifted_bytes u left a.form.width by.slices by.form.width a.slices hb ha) (λ x v h. extracted_bytes v e a.form.width 0 x h)

flipped_bytes : (u : ℕ) (a : Argument) (x : List Slice) → SlicesAreBytes a.slices → SlicesAreBytes x → IsBytePart (flipped a x u)
flipped_bytes u a x ha h = unit_bytes u (slices_of a.form.width) _ (λ i. record { a = byte_at x i h; hi = zero_byte; lo = zero_byte; c = byte_at a.slices ((a.form.width - 1) / 8) ha; table = omega arith; mask = top_small a.form.width i; init = omega arith })

signed_moved_bytes : (u e : ℕ) (a by : Argument) → SlicesAreBytes a.slices → SlicesAreBytes by.slices → IsBytePart (signed_moved_by e a by u)
signed_moved_bytes u e a by ha hb =
    then_bytes u (flipped a a.slices) (λ x. shifted_back e a by x) (flipped_bytes u a a.slices ha ha)
    (λ x v hx. then_bytes v (shifted_by false a.form.width by.slices by.form.width x) (λ y. flipped_back e a y) (shifted_bytes v false a.form.width by.slices by.form.width x hb hx)
    (λ y w hy. then_bytes w (flipped a y) (λ z. extracted e a.form.width 0 z) (flipped_bytes w a y ha hy) (λ z k hz. extracted_bytes k e a.form.width 0 z hz)))

-- ---- the table
abbrev pub HaveBytes : List Argument → Type 0
HaveBytes [] = Unit {0}
HaveBytes (a ∷ args) = SlicesAreBytes a.slices × HaveBytes args

operator_bytes : (u e : ℕ) (op : Op) (args : List Argument) → HaveBytes args → IsBytePart (operator_units e op args u)
operator_bytes u e Op.And (a ∷ b ∷ []) h = both_bytes u e a b (bitwise e table_and) (bitwise_bytes e table_and (omega arith)) h.0 h.1.0
operator_bytes u e Op.Or (a ∷ b ∷ []) h = both_bytes u e a b (bitwise e table_or) (bitwise_bytes e table_or (omega arith)) h.0 h.1.0
operator_bytes u e Op.Xor (a ∷ b ∷ []) h = both_bytes u e a b (bitwise e table_xor) (bitwise_bytes e table_xor (omega arith)) h.0 h.1.0
operator_bytes u e Op.Not (a ∷ []) h = inverted_bytes u e a.slices h.0
operator_bytes u e Op.Choose (c ∷ a ∷ b ∷ []) h = both_bytes u e a b (chosen e c.slices) (chosen_bytes e c.slices h.0) h.1.0 h.1.1.0
operator_bytes u e Op.Add (a ∷ b ∷ []) h = both_bytes u e a b (added e) (summed_bytes e 204 Carry.Zero (omega arith)) h.0 h.1.0
operator_bytes u e Op.Sub (a ∷ b ∷ []) h = both_bytes u e a b (subtracted e) (summed_bytes e 51 Carry.One (omega arith)) h.0 h.1.0
operator_bytes u e Op.Mul (a ∷ b ∷ []) h = both_bytes u e a b (λ x y. product e x (factor_width (is_any_signed a b) e a.form) y (factor_width (is_any_signed a b) e b.form))
    (record { at = λ v x y hx hy. product_bytes v e x (factor_width (is_any_signed a b) e a.form) y (factor_width (is_any_signed a b) e b.form) hx hy }) h.0 h.1.0
operator_bytes u e Op.Less (a ∷ b ∷ []) h = less_bytes u a b h.0 h.1.0
operator_bytes u e Op.GreaterEqual (a ∷ b ∷ []) h = greater_equal_bytes u a b h.0 h.1.0
operator_bytes u e Op.Greater (a ∷ b ∷ []) h = less_bytes u b a h.1.0 h.0
operator_bytes u e Op.LessEqual (a ∷ b ∷ []) h = greater_equal_bytes u b a h.1.0 h.0
operator_bytes u e Op.Equal (a ∷ b ∷ []) h = equal_bytes u table_c a b (omega arith) h.0 h.1.0
operator_bytes u e Op.NotEqual (a ∷ b ∷ []) h = equal_bytes u table_not_c a b (omega arith) h.0 h.1.0
operator_bytes u e (Op.Left k) (a ∷ []) h = moved_left_bytes u e a.form.width k a.slices h.0
operator_bytes u e (Op.Right k) (a ∷ []) h = moved_right_bytes u e k a h.0
operator_bytes u e (Op.Slice high low) (a ∷ []) h = extracted_bytes u e a.form.width low a.slices h.0
operator_bytes u e Op.Fit (a ∷ []) h = extracted_bytes u e a.form.width 0 a.slices h.0
operator_bytes u e Op.Cat (a ∷ b ∷ []) h = concatenated_bytes u e a b h.0 h.1.0
operator_bytes u e Op.LeftBy (a ∷ by ∷ []) h = moved_by_bytes u true e a by h.0 h.1.0
operator_bytes u e Op.RightBy (a ∷ by ∷ []) h = either_bytes u a.form.signed (signed_moved_by e a by) (moved_by false e a by) (signed_moved_bytes u e a by h.0 h.1.0) (moved_by_bytes u false e a by h.0 h.1.0)
operator_bytes u e op args h = kept_bytes u [] tt

pub table_bytes : (u w : ℕ) (op : Op) (args : List Argument) → HaveBytes args → IsBytePart (units_at w op args u)
table_bytes u w op args h =
    let fs = argument_forms args in
    let e = computed_bits w op fs in
    let signed = gives_signed op fs in
    let wide = λ (x : List Slice). widened (record { slices = x; form = record { signed = signed; width = e } }) w in
    filled_bytes u (slices_of w) (followed_by (operator_units e op args) wide)
    (then_bytes u (operator_units e op args) wide (operator_bytes u e op args h) (λ x v k. widened_bytes v (record { slices = x; form = record { signed = signed; width = e } }) w k))
