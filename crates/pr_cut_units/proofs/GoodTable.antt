-- Every row of the table makes good parts of operands that are known.
use Rattle.std.proofs.Common.{◌<◌, ◌≤◌, ℕ, ◌+◌, ◌-◌, ◌/◌, ◌%◌, ◌^◌, ◌==◌, ◌&&◌, Bool, true, false, List, [], ◌∷◌, length, nat_lt, take, max, min, arith}
use Rattle.std.specs.Bool.{if◌then◌else◌}
use Rattle.std.proofs.lemmas.List.FromFn.{length-map-range_with_len}
use Rattle.pr_base.specs.Numbers.{slices_of, top_mask_of}
use Rattle.pr_base.specs.declared.choices.Mode.{Mode}
use Rattle.pr_base.specs.declared.choices.Carry.{Carry}
use Rattle.pr_flat.specs.declared.equations.Op.{Op}
use Rattle.pr_flat.specs.declared.forms.Form.{Form}
use Rattle.pr_flat.specs.Forms.{wider, wider_signed}
use Rattle.pr_flat.specs.Rows.{gives_signed}
use Rattle.pr_net.specs.declared.cells.Slice.{Slice}
use Rattle.pr_net.specs.declared.cells.Wire.{Wire}
use Rattle.pr_net.specs.declared.cells.Cell.{Cell}
use Rattle.pr_net.specs.Shape.{wire_of}
use Rattle.pr_net.specs.Order.{BeginsFresh}
use Rattle.pr_cut_units.specs.Cells.{plain, top, byte, bit_of, slice_at, slice_below, table_b, table_c, table_not_c, table_and, table_or, table_xor, table_b_where_c}
use Rattle.pr_cut_units.specs.Parts.{Making, each, kept, one_unit, followed_by, above}
use Rattle.pr_cut_units.specs.declared.chains.Style.{Style}
use Rattle.pr_cut_units.specs.Chains.{chain, closed_chain}
use Rattle.pr_cut_units.specs.Widening.{Argument, sign_of, widening_cell, widened, both_widened, flipped}
use Rattle.pr_cut_units.specs.Operators.{bitwise, inverted, chosen, summed, added, subtracted, is_any_signed, unsigned_less, sign_unit, signed_less, less, greater_equal, compared_width, equal, ends_whole, moved_left, extracted, moved_right, concatenated}
use Rattle.pr_cut_units.specs.Products.{row_cell, product_row, product}
use Rattle.pr_cut_units.specs.Shifts.{with_shift, shift_cell, shift_row, shifted_by, moved_by, signed_moved_by}
use Rattle.pr_cut_units.specs.Table.{operator_units, result_units, units_at, argument_forms, computed_bits, factor_width}
use Rattle.pr_cut_units.proofs.Operands.{IsSource, AreOperands, operand_at, operand_below, operands_more, operands-take, operands-each, zero_operand, bit_source, IsGood, all-each, top_small, good_left, good_right}
use Rattle.pr_cut_units.proofs.GoodParts.{GoodPart, good_kept, good_unit, good_then, good_above, good_filled, GoodStep, good_turns}
use Rattle.pr_cut_units.proofs.GoodChains.{good_chain, good_closed}

-- a good part wherever it is made from unit u on
pub record GoodFrom (u : ℕ) (making : Making) : Type 0 where
  pub at : (v : ℕ) → u ≤ v → GoodPart v (making v)

-- an operation of two values
pub record GoodPair (u : ℕ) (making : List Slice → List Slice → Making) : Type 0 where
  pub at : (v : ℕ) (x y : List Slice) → u ≤ v → AreOperands v x → AreOperands v y → GoodPart v (making x y v)

-- ---- widening
good_widening : (v : ℕ) (a : Argument) (t i : ℕ) → AreOperands v a.slices → IsGood v (widening_cell a t i)
good_widening v a t i h = elim (i == a.form.width / 8 && nat_lt 0 (a.form.width % 8)) as (λ b. IsGood v (if b
    then record plain { a = byte a.slices i; hi = Wire.Const (255 - top_mask_of a.form.width); c = sign_of a; table = 234; mask = top t i }
    else record plain { c = sign_of a; table = table_c; mask = top t i })) [
      | true ↦ record {
        reads = record { a = (operand_at v a.slices i h).before; hi = tt; lo = tt; c = bit_source v a.slices (a.form.width - 1) h };
        bytes = record { a = (operand_at v a.slices i h).byte; mask = top_small t i; init = omega arith };
      }
      | false ↦ record {
        reads = record { a = tt; hi = tt; lo = tt; c = bit_source v a.slices (a.form.width - 1) h };
        bytes = record { a = omega arith; mask = top_small t i; init = omega arith };
      }
    ]

fresh_widening : (a : Argument) (t i : ℕ) → BeginsFresh (widening_cell a t i).cin
fresh_widening a t i = elim (i == a.form.width / 8 && nat_lt 0 (a.form.width % 8)) as (λ b. let k : Cell = if b
    then record plain { a = byte a.slices i; hi = Wire.Const (255 - top_mask_of a.form.width); c = sign_of a; table = 234; mask = top t i }
    else record plain { c = sign_of a; table = table_c; mask = top t i } in BeginsFresh k.cin) [ true ↦ tt | false ↦ tt ]

pub good_widened : (v : ℕ) (a : Argument) (t : ℕ) → AreOperands v a.slices → GoodPart v (widened a t v)
good_widened v a t h =
    let cell = λ (i : ℕ). widening_cell a t (a.form.width / 8 + i) in
    let unit : Making = one_unit (slices_of t - a.form.width / 8) cell in
    elim (a.form.signed && nat_lt a.form.width t) as (λ b. let m : Making = if b then above (take (a.form.width / 8) a.slices) unit else kept a.slices in GoodPart v (m v)) [
      | true ↦ good_above v (take (a.form.width / 8) a.slices) unit (operands-take v (a.form.width / 8) a.slices h)
          (good_unit v (slices_of t - a.form.width / 8) cell (λ i. good_widening v a t (a.form.width / 8 + i) h) (λ i. fresh_widening a t (a.form.width / 8 + i)))
      | false ↦ good_kept v a.slices h
    ]

pub good_both : (u v t : ℕ) (a b : Argument) (making : List Slice → List Slice → Making) → u ≤ v → GoodPair u making → AreOperands v a.slices → AreOperands v b.slices → GoodPart v (both_widened t a b making v)
good_both u v t a b making l g ha hb =
    let p = good_widened v a t ha in
    let x = (widened a t v).slices in
    let n : ℕ = v + length (widened a t v).units in
    let q = good_widened n b t (operands_more v n b.slices (omega arith) hb) in
    let y = (widened b t n).slices in
    let m : ℕ = n + length (widened b t n).units in
    good_then v (widened a t) (λ x. followed_by (widened b t) (λ y. making x y)) p
    (good_then n (widened b t) (λ y. making x y) q (g.at m x y (omega arith) (operands_more n m x (omega arith) p.slices) q.slices))

-- ---- operators
pub good_bitwise : (u e table : ℕ) → GoodPair u (bitwise e table)
good_bitwise u e table = record {
  at = λ v x y l hx hy. good_unit v (slices_of e) _ (λ i. record {
    reads = record { a = (operand_at v x i hx).before; hi = (operand_at v y i hy).before; lo = tt; c = tt };
    bytes = record { a = (operand_at v x i hx).byte; mask = top_small e i; init = omega arith };
  }) (λ i. tt);
}

pub good_chosen : (u e : ℕ) (c : List Slice) → AreOperands u c → GoodPair u (chosen e c)
good_chosen u e c hc = record {
  at = λ v x y l hx hy. good_unit v (slices_of e) _ (λ i. record {
    reads = record { a = (operand_at v x i hx).before; hi = (operand_at v y i hy).before; lo = tt; c = bit_source v c 0 (operands_more u v c l hc) };
    bytes = record { a = (operand_at v x i hx).byte; mask = top_small e i; init = omega arith };
  }) (λ i. tt);
}

pub good_inverted : (v e : ℕ) (x : List Slice) → AreOperands v x → GoodPart v (inverted e x v)
good_inverted v e x h = good_unit v (slices_of e) _ (λ i. record {
  reads = record { a = (operand_at v x i h).before; hi = tt; lo = tt; c = tt };
  bytes = record { a = (operand_at v x i h).byte; mask = top_small e i; init = omega arith };
}) (λ i. tt)

pub good_summed : (u e table : ℕ) (first : Carry) → BeginsFresh first → GoodPair u (summed e table first)
good_summed u e table first f = record {
  at = λ v x y l hx hy. good_chain v Style.ByBit first _ f (all-each v (slices_of e) _ (λ i. record {
    reads = record { a = (operand_at v x i hx).before; hi = (operand_at v y i hy).before; lo = tt; c = tt };
    bytes = record { a = (operand_at v x i hx).byte; mask = top_small e i; init = omega arith };
  }));
}

some_slices : (w : ℕ) → 1 ≤ w → 0 < slices_of w
some_slices w h = omega arith

some_cells : (w : ℕ) (f : ℕ → Cell) → 1 ≤ w → 0 < length (each (slices_of w) f)
some_cells w f h = omega (arith, length-map-range_with_len f 0 (slices_of w), some_slices w h)

good_unsigned_less : (v closing : ℕ) (a b : Argument) → 1 ≤ wider a.form b.form → AreOperands v a.slices → AreOperands v b.slices → GoodPart v (unsigned_less closing a b v)
good_unsigned_less v closing a b w ha hb = good_closed v Carry.One closing _ (some_cells (wider a.form b.form) _ w) tt (all-each v (slices_of (wider a.form b.form)) _ (λ i. record {
  reads = record { a = (operand_at v a.slices i ha).before; hi = (operand_at v b.slices i hb).before; lo = tt; c = tt };
  bytes = record { a = (operand_at v a.slices i ha).byte; mask = omega arith; init = omega arith };
}))

good_sign : (v m table : ℕ) (d : List Slice) → AreOperands v d → GoodPart v (sign_unit m table d v)
good_sign v m table d h = good_unit v 1 (λ i. record plain { c = bit_of d m; table = table; mask = 1 }) (λ i. record { reads = record { a = tt; hi = tt; lo = tt; c = bit_source v d m h }; bytes = record { a = omega arith; mask = omega arith; init = omega arith } }) (λ i. tt)

good_signed_less : (v table : ℕ) (a b : Argument) → AreOperands v a.slices → AreOperands v b.slices → GoodPart v (signed_less table a b v)
good_signed_less v table a b ha hb =
    let m = wider_signed a.form b.form in
    good_both v v (m + 1) a b (λ x y. followed_by (subtracted (m + 1) x y) (sign_unit m table)) (omega arith)
    (record { at = λ n x y l hx hy. (let p = (good_summed n (m + 1) 51 Carry.One tt).at n x y (omega arith) hx hy in good_then n (subtracted (m + 1) x y) (sign_unit m table) p (good_sign _ m table (subtracted (m + 1) x y n).slices p.slices)) }) ha hb

good_either : (v : ℕ) (b : Bool) (m n : Making) → GoodPart v (m v) → GoodPart v (n v) → GoodPart v ((if b then m else n) v)
good_either v true m n g h = g
good_either v false m n g h = h

pub good_less : (v : ℕ) (a b : Argument) → 1 ≤ wider a.form b.form → AreOperands v a.slices → AreOperands v b.slices → GoodPart v (less a b v)
good_less v a b w ha hb = good_either v (is_any_signed a b) (signed_less table_c a b) (unsigned_less table_not_c a b) (good_signed_less v table_c a b ha hb) (good_unsigned_less v table_not_c a b w ha hb)

pub good_greater_equal : (v : ℕ) (a b : Argument) → 1 ≤ wider a.form b.form → AreOperands v a.slices → AreOperands v b.slices → GoodPart v (greater_equal a b v)
good_greater_equal v a b w ha hb = good_either v (is_any_signed a b) (signed_less table_not_c a b) (unsigned_less table_c a b) (good_signed_less v table_not_c a b ha hb) (good_unsigned_less v table_c a b w ha hb)

pub good_equal : (v closing : ℕ) (a b : Argument) → 1 ≤ compared_width a b → AreOperands v a.slices → AreOperands v b.slices → GoodPart v (equal closing a b v)
good_equal v closing a b w ha hb = good_both v v (compared_width a b) a b (λ x y. closed_chain Carry.One closing (each (slices_of (compared_width a b)) (λ i. record plain { a = byte x i; hi = byte y i; mode = Mode.Zero; table = table_xor }))) (omega arith) (record {
  at = λ n x y l hx hy. good_closed n Carry.One closing _ (some_cells (compared_width a b) _ w) tt (all-each n (slices_of (compared_width a b)) _ (λ i. record {
    reads = record { a = (operand_at n x i hx).before; hi = (operand_at n y i hy).before; lo = tt; c = tt };
    bytes = record { a = (operand_at n x i hx).byte; mask = omega arith; init = omega arith };
  }));
}) ha hb

plain_good : (v table e i : ℕ) → IsGood v (record plain { table = table; mask = top e i })
plain_good v table e i = record { reads = record { a = tt; hi = tt; lo = tt; c = tt }; bytes = record { a = omega arith; mask = top_small e i; init = omega arith } }

pub good_moved_left : (v e w k : ℕ) (x : List Slice) → AreOperands v x → GoodPart v (moved_left e w k x v)
good_moved_left v e w k x h = good_either v (k % 8 == 0 && ends_whole e (w + k)) _ _
    (good_kept v _ (operands-each v (slices_of e) _ (λ i. operand_below v x i (k / 8) h)))
    (good_unit v (slices_of e) _ (λ i. good_left v x k i _ h (plain_good v table_b e i)) (λ i. tt))

pub good_extracted : (v e w l : ℕ) (x : List Slice) → AreOperands v x → GoodPart v (extracted e w l x v)
good_extracted v e w l x h = good_either v (l % 8 == 0 && ends_whole (l + e) w) _ _
    (good_kept v _ (operands-each v (slices_of e) _ (λ i. operand_at v x (i + l / 8) h)))
    (good_unit v (slices_of e) _ (λ i. good_right v x l i _ h (plain_good v table_b e i)) (λ i. tt))

pub good_moved_right : (v e k : ℕ) (a : Argument) → AreOperands v a.slices → GoodPart v (moved_right e k a v)
good_moved_right v e k a h = good_either v a.form.signed _ _ (good_extracted v e a.form.width (min k (a.form.width - 1)) a.slices h)
    (good_either v (nat_lt k a.form.width) _ _ (good_extracted v e a.form.width k a.slices h) (good_kept v (Slice.Const 0 ∷ []) (zero_operand v, tt)))

pub good_concatenated : (v e : ℕ) (a b : Argument) → AreOperands v a.slices → AreOperands v b.slices → GoodPart v (concatenated e a b v)
good_concatenated v e a b ha hb = good_either v (b.form.width % 8 == 0 && ends_whole e (a.form.width + b.form.width)) _ _
    (good_kept v _ (operands-each v (slices_of e) _ (λ i. elim (nat_lt i (b.form.width / 8)) as (λ t. IsSource v (wire_of (if t then slice_at b.slices i else slice_below a.slices i (b.form.width / 8)))) [ true ↦ operand_at v b.slices i hb | false ↦ operand_below v a.slices i (b.form.width / 8) ha ])))
    (good_unit v (slices_of e) _ (λ i. good_left v a.slices b.form.width i (record plain { a = byte b.slices i; table = table_or; mask = top e i }) ha (record {
      reads = record { a = (operand_at v b.slices i hb).before; hi = tt; lo = tt; c = tt };
      bytes = record { a = (operand_at v b.slices i hb).byte; mask = top_small e i; init = omega arith };
    })) (λ i. tt))

-- ---- products
pub good_row : (u e w : ℕ) (a b : List Slice) → AreOperands u a → AreOperands u b → GoodStep u (product_row e w a b)
good_row u e w a b ha hb = record {
  at = λ j v before l h. good_above v (take (j / 8) before) (chain Style.ByEntry Carry.Zero (each (slices_of (min e (w + j + 1)) - j / 8) (λ i. row_cell e w a b j before (j / 8 + i)))) (operands-take v (j / 8) before h)
      (good_chain v Style.ByEntry Carry.Zero _ tt (all-each v (slices_of (min e (w + j + 1)) - j / 8) _ (λ i. good_left v a j (j / 8 + i) (record plain { a = byte before (j / 8 + i); c = bit_of b j; mode = Mode.Sum; table = 192; mask = top (min e (w + j + 1)) (j / 8 + i) }) (operands_more u v a l ha) (record {
        reads = record { a = (operand_at v before (j / 8 + i) h).before; hi = tt; lo = tt; c = bit_source v b j (operands_more u v b l hb) };
        bytes = record { a = (operand_at v before (j / 8 + i) h).byte; mask = top_small (min e (w + j + 1)) (j / 8 + i); init = omega arith };
      }))));
}

pub good_product : (v e : ℕ) (a : List Slice) (wa : ℕ) (b : List Slice) (wb : ℕ) → AreOperands v a → AreOperands v b → GoodPart v (product e a wa b wb v)
good_product v e a wa b wb ha hb = good_turns v v 0 (min wb e) (product_row e wa a b) [] (good_row v e wa a b ha hb) (omega arith) tt

-- ---- variable shifts
good_shift_cell : (v : ℕ) (left : Bool) (w : ℕ) (by : List Slice) (j : ℕ) (before : List Slice) (i : ℕ) → AreOperands v by → AreOperands v before → IsGood v (shift_cell left w by j before i)
good_shift_cell v left w by j before i hb h =
    let cell : Cell = record plain { a = byte before i; c = bit_of by j; table = table_b_where_c; mask = top w i } in
    let g : IsGood v cell = record {
      reads = record { a = (operand_at v before i h).before; hi = tt; lo = tt; c = bit_source v by j hb };
      bytes = record { a = (operand_at v before i h).byte; mask = top_small w i; init = omega arith };
    } in
    elim (nat_lt j 7 && nat_lt (2 ^ j) w) as (λ t. IsGood v (if t then with_shift left before (2 ^ j) i cell else cell)) [
      | true ↦ elim left as (λ t. IsGood v (with_shift t before (2 ^ j) i cell)) [ true ↦ good_left v before (2 ^ j) i cell h g | false ↦ good_right v before (2 ^ j) i cell h g ]
      | false ↦ g
    ]

fresh_shift : (left : Bool) (w : ℕ) (by : List Slice) (j : ℕ) (before : List Slice) (i : ℕ) → BeginsFresh (shift_cell left w by j before i).cin
fresh_shift left w by j before i =
    let cell : Cell = record plain { a = byte before i; c = bit_of by j; table = table_b_where_c; mask = top w i } in
    elim (nat_lt j 7 && nat_lt (2 ^ j) w) as (λ t. let k : Cell = if t then with_shift left before (2 ^ j) i cell else cell in BeginsFresh k.cin) [
      | true ↦ elim left as (λ t. BeginsFresh (with_shift t before (2 ^ j) i cell).cin) [ true ↦ tt | false ↦ tt ]
      | false ↦ tt
    ]

pub good_shift_row : (u : ℕ) (left : Bool) (w : ℕ) (by : List Slice) → AreOperands u by → GoodStep u (shift_row left w by)
good_shift_row u left w by hb = record { at = λ j v before l h. good_unit v (slices_of w) _ (λ i. good_shift_cell v left w by j before i (operands_more u v by l hb) h) (λ i. fresh_shift left w by j before i) }

good_shifted : (v : ℕ) (left : Bool) (w : ℕ) (by : List Slice) (bits : ℕ) (x : List Slice) → AreOperands v by → AreOperands v x → GoodPart v (shifted_by left w by bits x v)
good_shifted v left w by bits x hb h = good_turns v v 0 bits (shift_row left w by) x (good_shift_row v left w by hb) (omega arith) h

pub good_moved_by : (v : ℕ) (left : Bool) (e : ℕ) (a by : Argument) → AreOperands v a.slices → AreOperands v by.slices → GoodPart v (moved_by left e a by v)
good_moved_by v left e a by ha hb =
    let p = good_shifted v left a.form.width by.slices by.form.width a.slices hb ha in
    good_then v (shifted_by left a.form.width by.slices by.form.width a.slices) (λ x. extracted e a.form.width 0 x) p (good_extracted _ e a.form.width 0 _ p.slices)

good_flipped : (v : ℕ) (a : Argument) (x : List Slice) → AreOperands v a.slices → AreOperands v x → GoodPart v (flipped a x v)
good_flipped v a x ha h = good_unit v (slices_of a.form.width) _ (λ i. record {
  reads = record { a = (operand_at v x i h).before; hi = tt; lo = tt; c = bit_source v a.slices (a.form.width - 1) ha };
  bytes = record { a = (operand_at v x i h).byte; mask = top_small a.form.width i; init = omega arith };
}) (λ i. tt)

pub good_signed_moved : (v e : ℕ) (a by : Argument) → AreOperands v a.slices → AreOperands v by.slices → GoodPart v (signed_moved_by e a by v)
good_signed_moved v e a by ha hb =
    let p = good_flipped v a a.slices ha ha in
    let x = (flipped a a.slices v).slices in
    let n : ℕ = v + length (flipped a a.slices v).units in
    let rows : Making = shifted_by false a.form.width by.slices by.form.width x in
    let q = good_shifted n false a.form.width by.slices by.form.width x (operands_more v n by.slices (omega arith) hb) p.slices in
    let y = (rows n).slices in
    let m : ℕ = n + length (rows n).units in
    let s = good_flipped m a y (operands_more v m a.slices (omega arith) ha) q.slices in
    let last = λ (z : List Slice). extracted e a.form.width 0 z in
    let second = λ (y : List Slice). followed_by (flipped a y) last in
    let t = good_then m (flipped a y) last s (good_extracted (m + length (flipped a y m).units) e a.form.width 0 (flipped a y m).slices s.slices) in
    let r = good_then n rows second q t in
    good_then v (flipped a a.slices) (λ x. followed_by (shifted_by false a.form.width by.slices by.form.width x) second) p r

-- ---- the table
abbrev pub KnownArguments : ℕ → List Argument → Type 0
KnownArguments v [] = Unit {0}
KnownArguments v (a ∷ args) = (AreOperands v a.slices × (1 ≤ a.form.width)) × KnownArguments v args

wider_some : (f g : Form) → 1 ≤ f.width → 1 ≤ wider f g
wider_some f g h = omega arith

compared_some : (a b : Argument) → 1 ≤ a.form.width → 1 ≤ compared_width a b
compared_some a b h = go (is_any_signed a b)
  where
    some_signed : 1 ≤ wider_signed a.form b.form
    some_signed = go_signed a.form.signed b.form.signed
      where
        go_signed : (s t : Bool) → 1 ≤ max (if s then a.form.width else a.form.width + 1) (if t then b.form.width else b.form.width + 1)
        go_signed true t = omega (arith, h)
        go_signed false t = omega arith

    go : (t : Bool) → 1 ≤ (if t then wider_signed a.form b.form else wider a.form b.form)
    go true = some_signed
    go false = wider_some a.form b.form h

pub good_operator : (v e : ℕ) (op : Op) (args : List Argument) → KnownArguments v args → GoodPart v (operator_units e op args v)
good_operator v e Op.And (a ∷ b ∷ []) h = good_both v v e a b (bitwise e table_and) (omega arith) (good_bitwise v e table_and) h.0.0 h.1.0.0
good_operator v e Op.Or (a ∷ b ∷ []) h = good_both v v e a b (bitwise e table_or) (omega arith) (good_bitwise v e table_or) h.0.0 h.1.0.0
good_operator v e Op.Xor (a ∷ b ∷ []) h = good_both v v e a b (bitwise e table_xor) (omega arith) (good_bitwise v e table_xor) h.0.0 h.1.0.0
good_operator v e Op.Not (a ∷ []) h = good_inverted v e a.slices h.0.0
good_operator v e Op.Choose (c ∷ a ∷ b ∷ []) h = good_both v v e a b (chosen e c.slices) (omega arith) (good_chosen v e c.slices h.0.0) h.1.0.0 h.1.1.0.0
good_operator v e Op.Add (a ∷ b ∷ []) h = good_both v v e a b (added e) (omega arith) (good_summed v e 204 Carry.Zero tt) h.0.0 h.1.0.0
good_operator v e Op.Sub (a ∷ b ∷ []) h = good_both v v e a b (subtracted e) (omega arith) (good_summed v e 51 Carry.One tt) h.0.0 h.1.0.0
good_operator v e Op.Mul (a ∷ b ∷ []) h = good_both v v e a b (λ x y. product e x (factor_width (is_any_signed a b) e a.form) y (factor_width (is_any_signed a b) e b.form)) (omega arith)
    (record { at = λ n x y l hx hy. good_product n e x (factor_width (is_any_signed a b) e a.form) y (factor_width (is_any_signed a b) e b.form) hx hy }) h.0.0 h.1.0.0
good_operator v e Op.Less (a ∷ b ∷ []) h = good_less v a b (wider_some a.form b.form h.0.1) h.0.0 h.1.0.0
good_operator v e Op.GreaterEqual (a ∷ b ∷ []) h = good_greater_equal v a b (wider_some a.form b.form h.0.1) h.0.0 h.1.0.0
good_operator v e Op.Greater (a ∷ b ∷ []) h = good_less v b a (wider_some b.form a.form h.1.0.1) h.1.0.0 h.0.0
good_operator v e Op.LessEqual (a ∷ b ∷ []) h = good_greater_equal v b a (wider_some b.form a.form h.1.0.1) h.1.0.0 h.0.0
good_operator v e Op.Equal (a ∷ b ∷ []) h = good_equal v table_c a b (compared_some a b h.0.1) h.0.0 h.1.0.0
good_operator v e Op.NotEqual (a ∷ b ∷ []) h = good_equal v table_not_c a b (compared_some a b h.0.1) h.0.0 h.1.0.0
good_operator v e (Op.Left k) (a ∷ []) h = good_moved_left v e a.form.width k a.slices h.0.0
good_operator v e (Op.Right k) (a ∷ []) h = good_moved_right v e k a h.0.0
good_operator v e (Op.Slice high low) (a ∷ []) h = good_extracted v e a.form.width low a.slices h.0.0
good_operator v e Op.Fit (a ∷ []) h = good_extracted v e a.form.width 0 a.slices h.0.0
good_operator v e Op.Cat (a ∷ b ∷ []) h = good_concatenated v e a b h.0.0 h.1.0.0
good_operator v e Op.LeftBy (a ∷ by ∷ []) h = good_moved_by v true e a by h.0.0 h.1.0.0
good_operator v e Op.RightBy (a ∷ by ∷ []) h = good_either v a.form.signed (signed_moved_by e a by) (moved_by false e a by) (good_signed_moved v e a by h.0.0 h.1.0.0) (good_moved_by v false e a by h.0.0 h.1.0.0)
good_operator v e op args h = good_kept v [] tt

pub good_result : (v w e : ℕ) (signed : Bool) (making : Making) → GoodPart v (making v) → GoodPart v (result_units w e signed making v)
good_result v w e signed making p =
    let wide = λ (x : List Slice). widened (record { slices = x; form = record { signed = signed; width = e } }) w in
    good_filled v (slices_of w) (followed_by making wide) (good_then v making wide p (good_widened _ (record { slices = (making v).slices; form = record { signed = signed; width = e } }) w p.slices))

pub good_at : (v w : ℕ) (op : Op) (args : List Argument) → KnownArguments v args → GoodPart v (units_at w op args v)
good_at v w op args h =
    let fs = argument_forms args in
    let e = computed_bits w op fs in
    good_result v w e (gives_signed op fs) (operator_units e op args) (good_operator v e op args h)
