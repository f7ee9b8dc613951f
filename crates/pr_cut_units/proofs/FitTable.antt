-- Every row of the table reads cells that are there, and has cells in each of its units.
use Rattle.std.proofs.Common.{◌<◌, ◌≤◌, ℕ, ◌+◌, ◌-◌, ◌/◌, ◌%◌, ◌^◌, ◌==◌, ◌&&◌, Bool, true, false, List, [], ◌∷◌, length, nat_lt, take, max, min, arith}
use Rattle.std.specs.Bool.{if◌then◌else◌}
use Rattle.std.proofs.lemmas.Bool.{and_parts, ltb-true}
use Rattle.std.proofs.lemmas.List.FromFn.{length-map-range_with_len}
use Rattle.pr_base.specs.Numbers.{slices_of, top_mask_of}
use Rattle.pr_base.specs.declared.choices.Mode.{Mode}
use Rattle.pr_base.specs.declared.choices.Carry.{Carry}
use Rattle.pr_flat.specs.declared.equations.Op.{Op}
use Rattle.pr_flat.specs.declared.forms.Form.{Form}
use Rattle.pr_flat.specs.Forms.{wider, wider_signed}
use Rattle.pr_flat.specs.Rows.{gives_signed}
use Rattle.pr_net.specs.declared.cells.Slice.{Slice}
use Rattle.pr_net.specs.declared.cells.Wire.{Wire}
use Rattle.pr_net.specs.declared.cells.Cell.{Cell}
use Rattle.pr_net.specs.Shape.{wire_of}
use Rattle.pr_cut_units.specs.Cells.{plain, top, byte, bit_of, slice_at, slice_below, table_b, table_c, table_not_c, table_and, table_or, table_xor, table_b_where_c}
use Rattle.pr_cut_units.specs.Parts.{Making, each, kept, one_unit, followed_by, above}
use Rattle.pr_cut_units.specs.declared.chains.Style.{Style}
use Rattle.pr_cut_units.specs.Chains.{chain, closed_chain}
use Rattle.pr_cut_units.specs.Widening.{Argument, sign_of, widening_cell, widened, both_widened, flipped}
use Rattle.pr_cut_units.specs.Operators.{bitwise, inverted, chosen, sum_cell, summed, added, subtracted, is_any_signed, unsigned_less, sign_unit, signed_less, less, greater_equal, compared_width, equal, ends_whole, moved_left, extracted, moved_right, concatenated}
use Rattle.pr_cut_units.specs.Products.{row_width, row_cell, product_row, product}
use Rattle.pr_cut_units.specs.Shifts.{with_shift, shift_cell, shift_row, shifted_by, moved_by, signed_moved_by}
use Rattle.pr_cut_units.specs.Table.{operator_units, units_at, argument_forms, computed_bits, factor_width}
use Rattle.pr_cut_units.proofs.FitParts.{IsThere, IsFit, AreThere, FitMaking, there_at, there_below, there_bit, there-take, there-each, fit-each, fit_left, fit_right, fit_kept, fit_unit, fit_then, fit_above, fit_filled, fit_turns, fit_either}
use Rattle.pr_cut_units.proofs.FitChains.{IsSteady, fit_chain, fit_closed}

some_slices : (w : ℕ) → 1 ≤ w → 0 < slices_of w
some_slices w h = omega arith

some_cells : (n : ℕ) (f : ℕ → Cell) → 0 < n → 0 < length (each n f)
some_cells n f h = omega (arith, length-map-range_with_len f 0 n, h)

-- ---- widening
fit_widening : (z : ℕ → ℕ) (T : ℕ → ℕ → Type 0) (a : Argument) (t i : ℕ) → AreThere z T a.slices → IsFit z T (widening_cell a t i)
fit_widening z T a t i h = elim (i == a.form.width / 8 && nat_lt 0 (a.form.width % 8)) as (λ b. IsFit z T (if b
    then record plain { a = byte a.slices i; hi = Wire.Const (255 - top_mask_of a.form.width); c = sign_of a; table = 234; mask = top t i }
    else record plain { c = sign_of a; table = table_c; mask = top t i })) [
      | true ↦ record { a = there_at z T a.slices i h; hi = tt; lo = tt; c = there_bit z T a.slices (a.form.width - 1) h; carry = tt; shift = omega arith }
      | false ↦ record { a = tt; hi = tt; lo = tt; c = there_bit z T a.slices (a.form.width - 1) h; carry = tt; shift = omega arith }
    ]

pub fit_widened : (z : ℕ → ℕ) (T : ℕ → ℕ → Type 0) (a : Argument) (t : ℕ) → AreThere z T a.slices → FitMaking z T (widened a t)
fit_widened z T a t h =
    let cell = λ (i : ℕ). widening_cell a t (a.form.width / 8 + i) in
    let unit : Making = one_unit (slices_of t - a.form.width / 8) cell in
    fit_either z T (a.form.signed && nat_lt a.form.width t) (above (take (a.form.width / 8) a.slices) unit) (kept a.slices)
    (λ e. (let wide : a.form.width < t = ltb-true _ _ (and_parts a.form.signed (nat_lt a.form.width t) e).1 in
    let some : 0 < slices_of t - a.form.width / 8 = omega (arith, wide) in
    fit_above z T (take (a.form.width / 8) a.slices) unit (there-take z T (a.form.width / 8) a.slices h) (fit_unit z T (slices_of t - a.form.width / 8) cell some (λ i. fit_widening z T a t (a.form.width / 8 + i) h))))
    (λ e. fit_kept z T a.slices h)

-- an operation of two values
pub record FitPair (z : ℕ → ℕ) (T : ℕ → ℕ → Type 0) (making : List Slice → List Slice → Making) : Type 0 where
  pub at : (x y : List Slice) → AreThere z T x → AreThere z T y → FitMaking z T (making x y)

pub fit_both : (z : ℕ → ℕ) (T : ℕ → ℕ → Type 0) (t : ℕ) (a b : Argument) (making : List Slice → List Slice → Making) → FitPair z T making → AreThere z T a.slices → AreThere z T b.slices → FitMaking z T (both_widened t a b making)
fit_both z T t a b making g ha hb =
    fit_then z T (widened a t) (λ x. followed_by (widened b t) (λ y. making x y)) (fit_widened z T a t ha) (λ x hx.
    fit_then z T (widened b t) (λ y. making x y) (fit_widened z T b t hb) (λ y hy. g.at x y hx hy))

-- ---- operators
fit_bitwise : (z : ℕ → ℕ) (T : ℕ → ℕ → Type 0) (e table : ℕ) → 1 ≤ e → FitPair z T (bitwise e table)
fit_bitwise z T e table some = record {
  at = λ x y hx hy. fit_unit z T (slices_of e) (λ i. record plain { a = byte x i; hi = byte y i; table = table; mask = top e i }) (some_slices e some) (λ i. record {
    a = there_at z T x i hx;
    hi = there_at z T y i hy;
    lo = tt;
    c = tt;
    carry = tt;
    shift = omega arith;
  });
}

fit_chosen : (z : ℕ → ℕ) (T : ℕ → ℕ → Type 0) (e : ℕ) (c : List Slice) → 1 ≤ e → AreThere z T c → FitPair z T (chosen e c)
fit_chosen z T e c some hc = record {
  at = λ x y hx hy. fit_unit z T (slices_of e) (λ i. record plain { a = byte x i; hi = byte y i; c = bit_of c 0; table = 172; mask = top e i }) (some_slices e some) (λ i. record {
    a = there_at z T x i hx;
    hi = there_at z T y i hy;
    lo = tt;
    c = there_bit z T c 0 hc;
    carry = tt;
    shift = omega arith;
  });
}

fit_inverted : (z : ℕ → ℕ) (T : ℕ → ℕ → Type 0) (e : ℕ) (x : List Slice) → 1 ≤ e → AreThere z T x → FitMaking z T (inverted e x)
fit_inverted z T e x some h = fit_unit z T (slices_of e) (λ i. record plain { a = byte x i; table = 85; mask = top e i }) (some_slices e some) (λ i. record { a = there_at z T x i h; hi = tt; lo = tt; c = tt; carry = tt; shift = omega arith })

fit_sum : (z : ℕ → ℕ) (T : ℕ → ℕ → Type 0) (table : ℕ) (x y : List Slice) (i mask : ℕ) → AreThere z T x → AreThere z T y → IsFit z T (record (sum_cell table x y i) { mask = mask })
fit_sum z T table x y i mask hx hy = record { a = there_at z T x i hx; hi = there_at z T y i hy; lo = tt; c = tt; carry = tt; shift = omega arith }

fit_summed : (z : ℕ → ℕ) (T : ℕ → ℕ → Type 0) (e table : ℕ) (first : Carry) → 1 ≤ e → IsSteady first → FitPair z T (summed e table first)
fit_summed z T e table first some f = record {
  at = λ x y hx hy. (let cell : ℕ → Cell = λ i. record (sum_cell table x y i) { mask = top e i } in
      fit_chain z T Style.ByBit first (each (slices_of e) cell) (some_cells (slices_of e) cell (some_slices e some)) f (fit-each z T (slices_of e) cell (λ i. fit_sum z T table x y i (top e i) hx hy)));
}

fit_unsigned_less : (z : ℕ → ℕ) (T : ℕ → ℕ → Type 0) (closing : ℕ) (a b : Argument) → 1 ≤ wider a.form b.form → AreThere z T a.slices → AreThere z T b.slices → FitMaking z T (unsigned_less closing a b)
fit_unsigned_less z T closing a b w ha hb =
    let n = slices_of (wider a.form b.form) in
    let cell : ℕ → Cell = sum_cell 51 a.slices b.slices in
    fit_closed z T Carry.One closing (each n cell) (some_cells n cell (some_slices (wider a.form b.form) w)) tt (fit-each z T n cell (λ i. record { a = there_at z T a.slices i ha; hi = there_at z T b.slices i hb; lo = tt; c = tt; carry = tt; shift = omega arith }))

fit_sign : (z : ℕ → ℕ) (T : ℕ → ℕ → Type 0) (m table : ℕ) (d : List Slice) → AreThere z T d → FitMaking z T (sign_unit m table d)
fit_sign z T m table d h = fit_unit z T 1 (λ i. record plain { c = bit_of d m; table = table; mask = 1 }) (omega arith) (λ i. record { a = tt; hi = tt; lo = tt; c = there_bit z T d m h; carry = tt; shift = omega arith })

fit_signed_less : (z : ℕ → ℕ) (T : ℕ → ℕ → Type 0) (table : ℕ) (a b : Argument) → AreThere z T a.slices → AreThere z T b.slices → FitMaking z T (signed_less table a b)
fit_signed_less z T table a b ha hb =
    let m = wider_signed a.form b.form in
    fit_both z T (m + 1) a b (λ x y. followed_by (subtracted (m + 1) x y) (sign_unit m table)) (record {
      at = λ x y hx hy. fit_then z T (subtracted (m + 1) x y) (sign_unit m table) ((fit_summed z T (m + 1) 51 Carry.One (omega arith) tt).at x y hx hy) (λ d hd. fit_sign z T m table d hd);
    }) ha hb

fit_less : (z : ℕ → ℕ) (T : ℕ → ℕ → Type 0) (a b : Argument) → 1 ≤ wider a.form b.form → AreThere z T a.slices → AreThere z T b.slices → FitMaking z T (less a b)
fit_less z T a b w ha hb = fit_either z T (is_any_signed a b) (signed_less table_c a b) (unsigned_less table_not_c a b) (λ e. fit_signed_less z T table_c a b ha hb) (λ e. fit_unsigned_less z T table_not_c a b w ha hb)

fit_greater_equal : (z : ℕ → ℕ) (T : ℕ → ℕ → Type 0) (a b : Argument) → 1 ≤ wider a.form b.form → AreThere z T a.slices → AreThere z T b.slices → FitMaking z T (greater_equal a b)
fit_greater_equal z T a b w ha hb = fit_either z T (is_any_signed a b) (signed_less table_not_c a b) (unsigned_less table_c a b) (λ e. fit_signed_less z T table_not_c a b ha hb) (λ e. fit_unsigned_less z T table_c a b w ha hb)

fit_equal : (z : ℕ → ℕ) (T : ℕ → ℕ → Type 0) (closing : ℕ) (a b : Argument) → 1 ≤ compared_width a b → AreThere z T a.slices → AreThere z T b.slices → FitMaking z T (equal closing a b)
fit_equal z T closing a b w ha hb =
    let n = slices_of (compared_width a b) in
    fit_both z T (compared_width a b) a b (λ x y. closed_chain Carry.One closing (each n (λ i. record plain { a = byte x i; hi = byte y i; mode = Mode.Zero; table = table_xor }))) (record {
      at = λ x y hx hy. (let cell : ℕ → Cell = λ i. record plain { a = byte x i; hi = byte y i; mode = Mode.Zero; table = table_xor } in
          fit_closed z T Carry.One closing (each n cell) (some_cells n cell (some_slices (compared_width a b) w)) tt (fit-each z T n cell (λ i. record { a = there_at z T x i hx; hi = there_at z T y i hy; lo = tt; c = tt; carry = tt; shift = omega arith })));
    }) ha hb

plain_fit : (z : ℕ → ℕ) (T : ℕ → ℕ → Type 0) (table mask : ℕ) → IsFit z T (record plain { table = table; mask = mask })
plain_fit z T table mask = record { a = tt; hi = tt; lo = tt; c = tt; carry = tt; shift = omega arith }

fit_moved_left : (z : ℕ → ℕ) (T : ℕ → ℕ → Type 0) (e w k : ℕ) (x : List Slice) → 1 ≤ e → AreThere z T x → FitMaking z T (moved_left e w k x)
fit_moved_left z T e w k x some h = fit_either z T (k % 8 == 0 && ends_whole e (w + k)) (kept (each (slices_of e) (λ i. slice_below x i (k / 8)))) _
    (λ q. fit_kept z T _ (there-each z T (slices_of e) (λ i. slice_below x i (k / 8)) (λ i l. there_below z T x i (k / 8) h)))
    (λ q. fit_unit z T (slices_of e) _ (some_slices e some) (λ i. fit_left z T x k i (record plain { table = table_b; mask = top e i }) h (plain_fit z T table_b (top e i))))

pub fit_extracted : (z : ℕ → ℕ) (T : ℕ → ℕ → Type 0) (e w l : ℕ) (x : List Slice) → 1 ≤ e → AreThere z T x → FitMaking z T (extracted e w l x)
fit_extracted z T e w l x some h = fit_either z T (l % 8 == 0 && ends_whole (l + e) w) (kept (each (slices_of e) (λ i. slice_at x (i + l / 8)))) _
    (λ q. fit_kept z T _ (there-each z T (slices_of e) (λ i. slice_at x (i + l / 8)) (λ i r. there_at z T x (i + l / 8) h)))
    (λ q. fit_unit z T (slices_of e) _ (some_slices e some) (λ i. fit_right z T x l i (record plain { table = table_b; mask = top e i }) h (plain_fit z T table_b (top e i))))

fit_moved_right : (z : ℕ → ℕ) (T : ℕ → ℕ → Type 0) (e k : ℕ) (a : Argument) → 1 ≤ e → AreThere z T a.slices → FitMaking z T (moved_right e k a)
fit_moved_right z T e k a some h = fit_either z T a.form.signed _ _ (λ q. fit_extracted z T e a.form.width (min k (a.form.width - 1)) a.slices some h)
    (λ q. fit_either z T (nat_lt k a.form.width) _ _ (λ r. fit_extracted z T e a.form.width k a.slices some h) (λ r. fit_kept z T (Slice.Const 0 ∷ []) (tt, tt)))

fit_concatenated : (z : ℕ → ℕ) (T : ℕ → ℕ → Type 0) (e : ℕ) (a b : Argument) → 1 ≤ e → AreThere z T a.slices → AreThere z T b.slices → FitMaking z T (concatenated e a b)
fit_concatenated z T e a b some ha hb = fit_either z T (b.form.width % 8 == 0 && ends_whole e (a.form.width + b.form.width)) (kept (each (slices_of e) (λ i. if nat_lt i (b.form.width / 8) then slice_at b.slices i else slice_below a.slices i (b.form.width / 8)))) _
    (λ q. fit_kept z T _ (there-each z T (slices_of e) (λ i. if nat_lt i (b.form.width / 8) then slice_at b.slices i else slice_below a.slices i (b.form.width / 8)) (λ i l. elim (nat_lt i (b.form.width / 8)) as (λ t. IsThere z T (wire_of (if t then slice_at b.slices i else slice_below a.slices i (b.form.width / 8)))) [ true ↦ there_at z T b.slices i hb | false ↦ there_below z T a.slices i (b.form.width / 8) ha ])))
    (λ q. fit_unit z T (slices_of e) _ (some_slices e some) (λ i. fit_left z T a.slices b.form.width i (record plain { a = byte b.slices i; table = table_or; mask = top e i }) ha (record { a = there_at z T b.slices i hb; hi = tt; lo = tt; c = tt; carry = tt; shift = omega arith })))

-- ---- products
row_some : (e w j wb : ℕ) → j < min wb e → 0 < slices_of (row_width e w j) - j / 8
row_some e w j wb h = omega (arith, h)

fit_row : (z : ℕ → ℕ) (T : ℕ → ℕ → Type 0) (e w wb : ℕ) (a b : List Slice) (j : ℕ) (before : List Slice) → j < min wb e → AreThere z T a → AreThere z T b → AreThere z T before → FitMaking z T (product_row e w a b j before)
fit_row z T e w wb a b j before l ha hb h =
    let n = slices_of (row_width e w j) - j / 8 in
    let cell : ℕ → Cell = λ i. row_cell e w a b j before (j / 8 + i) in
    fit_above z T (take (j / 8) before) (chain Style.ByEntry Carry.Zero (each n cell)) (there-take z T (j / 8) before h)
    (fit_chain z T Style.ByEntry Carry.Zero (each n cell) (some_cells n cell (row_some e w j wb l)) tt (fit-each z T n cell (λ i. fit_left z T a j (j / 8 + i) (record plain { a = byte before (j / 8 + i); c = bit_of b j; mode = Mode.Sum; table = 192; mask = top (row_width e w j) (j / 8 + i) }) ha (record {
      a = there_at z T before (j / 8 + i) h;
      hi = tt;
      lo = tt;
      c = there_bit z T b j hb;
      carry = tt;
      shift = omega arith;
    }))))

fit_product : (z : ℕ → ℕ) (T : ℕ → ℕ → Type 0) (e : ℕ) (a : List Slice) (wa : ℕ) (b : List Slice) (wb : ℕ) → AreThere z T a → AreThere z T b → FitMaking z T (product e a wa b wb)
fit_product z T e a wa b wb ha hb = fit_turns z T (product_row e wa a b) 0 (min wb e) [] (λ j y l h. fit_row z T e wa wb a b j y (omega (arith, l)) ha hb h) tt

-- ---- variable shifts
fit_shift_cell : (z : ℕ → ℕ) (T : ℕ → ℕ → Type 0) (left : Bool) (w : ℕ) (by : List Slice) (j : ℕ) (before : List Slice) (i : ℕ) → AreThere z T by → AreThere z T before → IsFit z T (shift_cell left w by j before i)
fit_shift_cell z T left w by j before i hb h =
    let cell : Cell = record plain { a = byte before i; c = bit_of by j; table = table_b_where_c; mask = top w i } in
    let g : IsFit z T cell = record { a = there_at z T before i h; hi = tt; lo = tt; c = there_bit z T by j hb; carry = tt; shift = omega arith } in
    elim (nat_lt j 7 && nat_lt (2 ^ j) w) as (λ t. IsFit z T (if t then with_shift left before (2 ^ j) i cell else cell)) [
      | true ↦ elim left as (λ t. IsFit z T (with_shift t before (2 ^ j) i cell)) [ true ↦ fit_left z T before (2 ^ j) i cell h g | false ↦ fit_right z T before (2 ^ j) i cell h g ]
      | false ↦ g
    ]

fit_shifted : (z : ℕ → ℕ) (T : ℕ → ℕ → Type 0) (left : Bool) (w : ℕ) (by : List Slice) (bits : ℕ) (x : List Slice) → 1 ≤ w → AreThere z T by → AreThere z T x → FitMaking z T (shifted_by left w by bits x)
fit_shifted z T left w by bits x some hb h = fit_turns z T (shift_row left w by) 0 bits x (λ j y l hy. fit_unit z T (slices_of w) (λ i. shift_cell left w by j y i) (some_slices w some) (λ i. fit_shift_cell z T left w by j y i hb hy)) h

fit_moved_by : (z : ℕ → ℕ) (T : ℕ → ℕ → Type 0) (left : Bool) (e : ℕ) (a by : Argument) → 1 ≤ e → 1 ≤ a.form.width → AreThere z T a.slices → AreThere z T by.slices → FitMaking z T (moved_by left e a by)
fit_moved_by z T left e a by some wide ha hb =
    fit_then z T (shifted_by left a.form.width by.slices by.form.width a.slices) (λ x. extracted e a.form.width 0 x) (fit_shifted z T left a.form.width by.slices by.form.width a.slices wide hb ha) (λ x hx. fit_extracted z T e a.form.width 0 x some hx)

fit_flipped : (z : ℕ → ℕ) (T : ℕ → ℕ → Type 0) (a : Argument) (x : List Slice) → 1 ≤ a.form.width → AreThere z T a.slices → AreThere z T x → FitMaking z T (flipped a x)
fit_flipped z T a x wide ha h = fit_unit z T (slices_of a.form.width) (λ i. record plain { a = byte x i; c = sign_of a; table = 90; mask = top a.form.width i }) (some_slices a.form.width wide) (λ i. record { a = there_at z T x i h; hi = tt; lo = tt; c = there_bit z T a.slices (a.form.width - 1) ha; carry = tt; shift = omega arith })

fit_signed_moved : (z : ℕ → ℕ) (T : ℕ → ℕ → Type 0) (e : ℕ) (a by : Argument) → 1 ≤ e → 1 ≤ a.form.width → AreThere z T a.slices → AreThere z T by.slices → FitMaking z T (signed_moved_by e a by)
fit_signed_moved z T e a by some wide ha hb =
    let last = λ (z : List Slice). extracted e a.form.width 0 z in
    let second = λ (y : List Slice). followed_by (flipped a y) last in
    fit_then z T (flipped a a.slices) (λ x. followed_by (shifted_by false a.form.width by.slices by.form.width x) second) (fit_flipped z T a a.slices wide ha ha) (λ x hx.
    fit_then z T (shifted_by false a.form.width by.slices by.form.width x) second (fit_shifted z T false a.form.width by.slices by.form.width x wide hb hx) (λ y hy.
    fit_then z T (flipped a y) last (fit_flipped z T a y wide ha hy) (λ w hw. fit_extracted z T e a.form.width 0 w some hw)))

-- ---- the table
abbrev pub ThereArguments : (ℕ → ℕ) → (ℕ → ℕ → Type 0) → List Argument → Type 0
ThereArguments z T [] = Unit {0}
ThereArguments z T (a ∷ args) = (AreThere z T a.slices × (1 ≤ a.form.width)) × ThereArguments z T args

wider_some : (f g : Form) → 1 ≤ f.width → 1 ≤ wider f g
wider_some f g h = omega arith

compared_some : (a b : Argument) → 1 ≤ a.form.width → 1 ≤ compared_width a b
compared_some a b h = go (is_any_signed a b)
  where
    some_signed : 1 ≤ wider_signed a.form b.form
    some_signed = go_signed a.form.signed b.form.signed
      where
        go_signed : (s t : Bool) → 1 ≤ max (if s then a.form.width else a.form.width + 1) (if t then b.form.width else b.form.width + 1)
        go_signed true t = omega (arith, h)
        go_signed false t = omega arith

    go : (t : Bool) → 1 ≤ (if t then wider_signed a.form b.form else wider a.form b.form)
    go true = some_signed
    go false = wider_some a.form b.form h

pub fit_operator : (z : ℕ → ℕ) (T : ℕ → ℕ → Type 0) (e : ℕ) (op : Op) (args : List Argument) → 1 ≤ e → ThereArguments z T args → FitMaking z T (operator_units e op args)
fit_operator z T e Op.And (a ∷ b ∷ []) s h = fit_both z T e a b (bitwise e table_and) (fit_bitwise z T e table_and s) h.0.0 h.1.0.0
fit_operator z T e Op.Or (a ∷ b ∷ []) s h = fit_both z T e a b (bitwise e table_or) (fit_bitwise z T e table_or s) h.0.0 h.1.0.0
fit_operator z T e Op.Xor (a ∷ b ∷ []) s h = fit_both z T e a b (bitwise e table_xor) (fit_bitwise z T e table_xor s) h.0.0 h.1.0.0
fit_operator z T e Op.Not (a ∷ []) s h = fit_inverted z T e a.slices s h.0.0
fit_operator z T e Op.Choose (c ∷ a ∷ b ∷ []) s h = fit_both z T e a b (chosen e c.slices) (fit_chosen z T e c.slices s h.0.0) h.1.0.0 h.1.1.0.0
fit_operator z T e Op.Add (a ∷ b ∷ []) s h = fit_both z T e a b (added e) (fit_summed z T e 204 Carry.Zero s tt) h.0.0 h.1.0.0
fit_operator z T e Op.Sub (a ∷ b ∷ []) s h = fit_both z T e a b (subtracted e) (fit_summed z T e 51 Carry.One s tt) h.0.0 h.1.0.0
fit_operator z T e Op.Mul (a ∷ b ∷ []) s h = fit_both z T e a b (λ x y. product e x (factor_width (is_any_signed a b) e a.form) y (factor_width (is_any_signed a b) e b.form))
    (record { at = λ x y hx hy. fit_product z T e x (factor_width (is_any_signed a b) e a.form) y (factor_width (is_any_signed a b) e b.form) hx hy }) h.0.0 h.1.0.0
fit_operator z T e Op.Less (a ∷ b ∷ []) s h = fit_less z T a b (wider_some a.form b.form h.0.1) h.0.0 h.1.0.0
fit_operator z T e Op.GreaterEqual (a ∷ b ∷ []) s h = fit_greater_equal z T a b (wider_some a.form b.form h.0.1) h.0.0 h.1.0.0
fit_operator z T e Op.Greater (a ∷ b ∷ []) s h = fit_less z T b a (wider_some b.form a.form h.1.0.1) h.1.0.0 h.0.0
fit_operator z T e Op.LessEqual (a ∷ b ∷ []) s h = fit_greater_equal z T b a (wider_some b.form a.form h.1.0.1) h.1.0.0 h.0.0
fit_operator z T e Op.Equal (a ∷ b ∷ []) s h = fit_equal z T table_c a b (compared_some a b h.0.1) h.0.0 h.1.0.0
fit_operator z T e Op.NotEqual (a ∷ b ∷ []) s h = fit_equal z T table_not_c a b (compared_some a b h.0.1) h.0.0 h.1.0.0
fit_operator z T e (Op.Left k) (a ∷ []) s h = fit_moved_left z T e a.form.width k a.slices s h.0.0
fit_operator z T e (Op.Right k) (a ∷ []) s h = fit_moved_right z T e k a s h.0.0
fit_operator z T e (Op.Slice high low) (a ∷ []) s h = fit_extracted z T e a.form.width low a.slices s h.0.0
fit_operator z T e Op.Fit (a ∷ []) s h = fit_extracted z T e a.form.width 0 a.slices s h.0.0
fit_operator z T e Op.Cat (a ∷ b ∷ []) s h = fit_concatenated z T e a b s h.0.0 h.1.0.0
fit_operator z T e Op.LeftBy (a ∷ by ∷ []) s h = fit_moved_by z T true e a by s h.0.1 h.0.0 h.1.0.0
fit_operator z T e Op.RightBy (a ∷ by ∷ []) s h = fit_either z T a.form.signed (signed_moved_by e a by) (moved_by false e a by) (λ q. fit_signed_moved z T e a by s h.0.1 h.0.0 h.1.0.0) (λ q. fit_moved_by z T false e a by s h.0.1 h.0.0 h.1.0.0)
fit_operator z T e op args s h = fit_kept z T [] tt

pub fit_at : (z : ℕ → ℕ) (T : ℕ → ℕ → Type 0) (w : ℕ) (op : Op) (args : List Argument) → 1 ≤ computed_bits w op (argument_forms args) → ThereArguments z T args → FitMaking z T (units_at w op args)
fit_at z T w op args some h =
    let fs = argument_forms args in
    let e = computed_bits w op fs in
    let wide = λ (x : List Slice). widened (record { slices = x; form = record { signed = gives_signed op fs; width = e } }) w in
    fit_filled z T (slices_of w) (followed_by (operator_units e op args) wide)
    (fit_then z T (operator_units e op args) wide (fit_operator z T e op args some h) (λ x hx. fit_widened z T (record { slices = x; form = record { signed = gives_signed op fs; width = e } }) w hx))
