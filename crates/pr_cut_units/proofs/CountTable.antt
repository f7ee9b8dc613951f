-- How many units every row of the table makes.
use Rattle.std.proofs.Common.{◌≡◌, ◌<◌, ◌≤◌, ℕ, zero, suc, ◌+◌, ◌-◌, ◌/◌, ◌%◌, ◌==◌, ◌&&◌, Bool, true, false, List, [], ◌∷◌, length, nat_lt, take, map, max, min, refl, sym, ap, ap₂, ◌∙◌, arith, length-append}
use Rattle.std.specs.Bool.{if◌then◌else◌}
use Rattle.std.specs.List.{range_with_len, sum}
use Rattle.std.proofs.lemmas.List.FromFn.{length-map-range_with_len}
use Rattle.std.proofs.lemmas.List.Sums.{sum_by-cons}
use Rattle.pr_base.specs.Numbers.{slices_of}
use Rattle.pr_base.specs.declared.choices.Mode.{Mode}
use Rattle.pr_base.specs.declared.choices.Carry.{Carry}
use Rattle.pr_flat.specs.declared.equations.Op.{Op}
use Rattle.pr_flat.specs.declared.forms.Form.{Form}
use Rattle.pr_flat.specs.Forms.{wider, wider_signed}
use Rattle.pr_flat.specs.Rows.{gives_signed}
use Rattle.pr_net.specs.declared.cells.Slice.{Slice}
use Rattle.pr_net.specs.declared.cells.Cell.{Cell}
use Rattle.pr_cut_units.specs.Cells.{plain, byte, table_c, table_not_c, table_and, table_or, table_xor}
use Rattle.pr_cut_units.specs.Parts.{Making, each, kept, one_unit, followed_by, above, filled, in_turn}
use Rattle.pr_cut_units.specs.declared.chains.Style.{Style}
use Rattle.pr_cut_units.specs.Chains.{carried, chain, closed_chain}
use Rattle.pr_cut_units.specs.Widening.{Argument, widening_cell, widened, both_widened, flipped}
use Rattle.pr_cut_units.specs.Operators.{bitwise, chosen, summed, added, subtracted, is_any_signed, unsigned_less, sign_unit, signed_less, less, greater_equal, compared_width, equal, ends_whole, moved_left, extracted, moved_right, concatenated}
use Rattle.pr_cut_units.specs.Products.{row_width, row_cell, product_row, product}
use Rattle.pr_cut_units.specs.Shifts.{shift_row, shifted_by, moved_by, signed_moved_by}
use Rattle.pr_cut_units.specs.Table.{operator_units, units_at, argument_forms, computed_bits, factor_width}
use Rattle.pr_cut_units.specs.Counts.{widening_count, both_count, chain_count, less_count, equal_count, left_count, extract_count, right_count, product_count, operator_count, count_at}
use Rattle.pr_cut_units.proofs.GoodChains.{chain_count_is}

-- a part of just so many units, wherever it is made
pub record Takes (making : Making) (n : ℕ) : Type 0 where
  pub at : (u : ℕ) → length (making u).units ≡ n

pub takes_kept : (x : List Slice) → Takes (kept x) 0
takes_kept x = record { at = λ u. refl }

pub takes_unit : (n : ℕ) (cell : ℕ → Cell) → Takes (one_unit n cell) 1
takes_unit n cell = record { at = λ u. refl }

pub takes_then : (first : Making) (second : List Slice → Making) (m n : ℕ) → Takes first m → ((x : List Slice) → Takes (second x) n) → Takes (followed_by first second) (m + n)
takes_then first second m n p q = record { at = λ u. length-append (first u).units (second (first u).slices (u + length (first u).units)).units ∙ ap₂ (λ (x y : ℕ). x + y) (p.at u) ((q (first u).slices).at (u + length (first u).units)) }

pub takes_above : (low : List Slice) (making : Making) (n : ℕ) → Takes making n → Takes (above low making) n
takes_above low making n p = record { at = λ u. p.at u }

pub takes_filled : (k : ℕ) (making : Making) (n : ℕ) → Takes making n → Takes (filled k making) n
takes_filled k making n p = record { at = λ u. p.at u }

pub takes_either : (b : Bool) (making other : Making) (m n : ℕ) → Takes making m → Takes other n → Takes (if b then making else other) (if b then m else n)
takes_either true making other m n p q = p
takes_either false making other m n p q = q

pub takes_widened : (a : Argument) (t : ℕ) → Takes (widened a t) (widening_count a.form t)
takes_widened a t = takes_either (a.form.signed && nat_lt a.form.width t) _ _ 1 0 (takes_above (take (a.form.width / 8) a.slices) (one_unit (slices_of t - a.form.width / 8) (λ i. widening_cell a t (a.form.width / 8 + i))) 1 (takes_unit _ _)) (takes_kept a.slices)

-- two operands are widened, and then a part of n units follows
pub takes_both : (t : ℕ) (a b : Argument) (making : List Slice → List Slice → Making) (n : ℕ) → ((x y : List Slice) → Takes (making x y) n) → Takes (both_widened t a b making) (both_count t a.form b.form + n)
takes_both t a b making n p =
    let q = takes_then (widened a t) (λ x. followed_by (widened b t) (λ y. making x y)) (widening_count a.form t) (widening_count b.form t + n) (takes_widened a t)
    (λ x. takes_then (widened b t) (λ y. making x y) (widening_count b.form t) n (takes_widened b t) (λ y. p x y)) in
    record { at = λ u. q.at u ∙ omega arith }

pub takes_chain : (s : Style) (first : Carry) (n : ℕ) (cell : ℕ → Cell) → 1 ≤ n → Takes (chain s first (each n cell)) (chain_count n)
takes_chain s first n cell h =
    let long : length (each n cell) ≡ n = length-map-range_with_len cell 0 n in
    record { at = λ u. chain_count_is s u first [] (each n cell) (omega (arith, long)) ∙ ap chain_count long }

pub takes_closed : (first : Carry) (table n : ℕ) (cell : ℕ → Cell) → 1 ≤ n → Takes (closed_chain first table (each n cell)) (chain_count n)
takes_closed first table n cell h =
    let long : length (each n cell) ≡ n = length-map-range_with_len cell 0 n in
    record { at = λ u. chain_count_is Style.ByBit u first (carried table ∷ []) (each n cell) (omega (arith, long)) ∙ ap chain_count long }

some_slices : (w : ℕ) → 1 ≤ w → 1 ≤ slices_of w
some_slices w h = omega arith

-- ---- operators
takes_summed : (e table : ℕ) (first : Carry) (x y : List Slice) → 1 ≤ e → Takes (summed e table first x y) (chain_count (slices_of e))
takes_summed e table first x y h = takes_chain Style.ByBit first (slices_of e) _ (some_slices e h)

takes_signed_less : (table : ℕ) (a b : Argument) → let m = wider_signed a.form b.form in Takes (signed_less table a b) (both_count (m + 1) a.form b.form + chain_count (slices_of (m + 1)) + 1)
takes_signed_less table a b =
    let m = wider_signed a.form b.form in
    let p = takes_both (m + 1) a b (λ x y. followed_by (subtracted (m + 1) x y) (sign_unit m table)) (chain_count (slices_of (m + 1)) + 1)
    (λ x y. takes_then (subtracted (m + 1) x y) (sign_unit m table) (chain_count (slices_of (m + 1))) 1 (takes_summed (m + 1) 51 Carry.One x y (omega arith)) (λ d. record { at = λ u. refl })) in
    record { at = λ u. p.at u ∙ omega arith }

takes_unsigned_less : (closing : ℕ) (a b : Argument) → 1 ≤ wider a.form b.form → Takes (unsigned_less closing a b) (chain_count (slices_of (wider a.form b.form)))
takes_unsigned_less closing a b h = takes_closed Carry.One closing (slices_of (wider a.form b.form)) _ (some_slices (wider a.form b.form) h)

takes_less : (a b : Argument) → 1 ≤ wider a.form b.form → Takes (less a b) (less_count a.form b.form)
takes_less a b h = takes_either (is_any_signed a b) (signed_less table_c a b) (unsigned_less table_not_c a b) _ _ (takes_signed_less table_c a b) (takes_unsigned_less table_not_c a b h)

takes_greater_equal : (a b : Argument) → 1 ≤ wider a.form b.form → Takes (greater_equal a b) (less_count a.form b.form)
takes_greater_equal a b h = takes_either (is_any_signed a b) (signed_less table_not_c a b) (unsigned_less table_c a b) _ _ (takes_signed_less table_not_c a b) (takes_unsigned_less table_c a b h)

takes_equal : (closing : ℕ) (a b : Argument) → 1 ≤ compared_width a b → Takes (equal closing a b) (equal_count a.form b.form)
takes_equal closing a b h =
    let cell = λ (x y : List Slice) (i : ℕ). record plain { a = byte x i; hi = byte y i; mode = Mode.Zero; table = table_xor } in
    takes_both (compared_width a b) a b (λ x y. closed_chain Carry.One closing (each (slices_of (compared_width a b)) (cell x y))) (chain_count (slices_of (compared_width a b)))
    (λ x y. takes_closed Carry.One closing (slices_of (compared_width a b)) (cell x y) (some_slices (compared_width a b) h))

takes_moved_left : (e w k : ℕ) (x : List Slice) → Takes (moved_left e w k x) (left_count e w k)
takes_moved_left e w k x = takes_either (k % 8 == 0 && ends_whole e (w + k)) _ _ 0 1 (takes_kept _) (takes_unit _ _)

takes_extracted : (e w l : ℕ) (x : List Slice) → Takes (extracted e w l x) (extract_count e w l)
takes_extracted e w l x = takes_either (l % 8 == 0 && ends_whole (l + e) w) _ _ 0 1 (takes_kept _) (takes_unit _ _)

takes_moved_right : (e k : ℕ) (a : Argument) → Takes (moved_right e k a) (right_count e k a.form)
takes_moved_right e k a = takes_either a.form.signed _ _ _ _ (takes_extracted e a.form.width (min k (a.form.width - 1)) a.slices)
    (takes_either (nat_lt k a.form.width) _ _ _ 0 (takes_extracted e a.form.width k a.slices) (takes_kept (Slice.Const 0 ∷ [])))

takes_concatenated : (e : ℕ) (a b : Argument) → Takes (concatenated e a b) (left_count e a.form.width b.form.width)
takes_concatenated e a b = takes_either (b.form.width % 8 == 0 && ends_whole e (a.form.width + b.form.width)) _ _ 0 1 (takes_kept _) (takes_unit _ _)

-- ---- products and variable shifts
pub takes_turns : (step : ℕ → List Slice → Making) (count : ℕ → ℕ) (j n top : ℕ) (x : List Slice) → ((i : ℕ) (y : List Slice) → i < top → Takes (step i y) (count i)) → j + n ≤ top → Takes (in_turn step j n x) (sum (map count (range_with_len j n)))
takes_turns step count j zero top x h l = record { at = λ u. refl }
takes_turns step count j (suc n) top x h l =
    let p = takes_then (step j x) (in_turn step (j + 1) n) (count j) (sum (map count (range_with_len (j + 1) n))) (h j x (omega arith)) (λ y. takes_turns step count (j + 1) n top y h (omega arith)) in
    record { at = λ u. p.at u ∙ sym (sum_by-cons (λ k. k) (count j) (map count (range_with_len (j + 1) n))) }

row_some : (e w j : ℕ) → j < e → 1 ≤ slices_of (row_width e w j) - j / 8
row_some e w j h = omega arith

pub takes_product : (e : ℕ) (a : List Slice) (wa : ℕ) (b : List Slice) (wb : ℕ) → Takes (product e a wa b wb) (product_count e wa wb)
takes_product e a wa b wb = takes_turns (product_row e wa a b) (λ j. chain_count (slices_of (row_width e wa j) - j / 8)) 0 (min wb e) (min wb e) []
    (λ j before l. takes_above (take (j / 8) before) (chain Style.ByEntry Carry.Zero (each (slices_of (row_width e wa j) - j / 8) (λ i. row_cell e wa a b j before (j / 8 + i)))) _ (takes_chain Style.ByEntry Carry.Zero (slices_of (row_width e wa j) - j / 8) _ (row_some e wa j (omega arith)))) (omega arith)

ones : (j n : ℕ) → sum (map (λ k. 1) (range_with_len j n)) ≡ n
ones j zero = refl
ones j (suc n) = sum_by-cons (λ k. k) 1 (map (λ k. 1) (range_with_len (j + 1) n)) ∙ omega (arith, ones (j + 1) n)

pub takes_shifted : (left : Bool) (w : ℕ) (by : List Slice) (bits : ℕ) (x : List Slice) → Takes (shifted_by left w by bits x) bits
takes_shifted left w by bits x =
    let p = takes_turns (shift_row left w by) (λ j. 1) 0 bits bits x (λ j before l. takes_unit _ _) (omega arith) in
    record { at = λ u. p.at u ∙ ones 0 bits }

takes_moved_by : (left : Bool) (e : ℕ) (a by : Argument) → Takes (moved_by left e a by) (by.form.width + extract_count e a.form.width 0)
takes_moved_by left e a by = takes_then (shifted_by left a.form.width by.slices by.form.width a.slices) (λ x. extracted e a.form.width 0 x) _ _ (takes_shifted left a.form.width by.slices by.form.width a.slices) (λ x. takes_extracted e a.form.width 0 x)

takes_signed_moved : (e : ℕ) (a by : Argument) → Takes (signed_moved_by e a by) (2 + by.form.width + extract_count e a.form.width 0)
takes_signed_moved e a by =
    let last = λ (z : List Slice). extracted e a.form.width 0 z in
    let second = λ (y : List Slice). followed_by (flipped a y) last in
    let p = takes_then (flipped a a.slices) (λ x. followed_by (shifted_by false a.form.width by.slices by.form.width x) second) 1 (by.form.width + (1 + extract_count e a.form.width 0)) (takes_unit _ _)
    (λ x. takes_then (shifted_by false a.form.width by.slices by.form.width x) second by.form.width (1 + extract_count e a.form.width 0) (takes_shifted false a.form.width by.slices by.form.width x)
    (λ y. takes_then (flipped a y) last 1 (extract_count e a.form.width 0) (takes_unit _ _) (λ z. takes_extracted e a.form.width 0 z))) in
    record { at = λ u. p.at u ∙ omega arith }

-- ---- the table
abbrev pub WideForms : List Argument → Type 0
WideForms [] = Unit {0}
WideForms (a ∷ args) = (1 ≤ a.form.width) × WideForms args

wider_some : (f g : Form) → 1 ≤ f.width → 1 ≤ wider f g
wider_some f g h = omega arith

signed_some : (f g : Form) → 1 ≤ f.width → 1 ≤ wider_signed f g
signed_some f g h = go f.signed g.signed
  where
    go : (s t : Bool) → 1 ≤ max (if s then f.width else f.width + 1) (if t then g.width else g.width + 1)
    go true t = omega (arith, h)
    go false t = omega arith

compared_some : (a b : Argument) → 1 ≤ a.form.width → 1 ≤ compared_width a b
compared_some a b h = go (is_any_signed a b)
  where
    go : (t : Bool) → 1 ≤ (if t then wider_signed a.form b.form else wider a.form b.form)
    go true = signed_some a.form b.form h
    go false = wider_some a.form b.form h

pub takes_operator : (e : ℕ) (op : Op) (args : List Argument) → 1 ≤ e → WideForms args → Takes (operator_units e op args) (operator_count e op (argument_forms args))
takes_operator e Op.And (a ∷ b ∷ []) h w = takes_both e a b (bitwise e table_and) 1 (λ x y. takes_unit _ _)
takes_operator e Op.Or (a ∷ b ∷ []) h w = takes_both e a b (bitwise e table_or) 1 (λ x y. takes_unit _ _)
takes_operator e Op.Xor (a ∷ b ∷ []) h w = takes_both e a b (bitwise e table_xor) 1 (λ x y. takes_unit _ _)
takes_operator e Op.Not (a ∷ []) h w = takes_unit _ _
takes_operator e Op.Choose (c ∷ a ∷ b ∷ []) h w = takes_both e a b (chosen e c.slices) 1 (λ x y. takes_unit _ _)
takes_operator e Op.Add (a ∷ b ∷ []) h w = takes_both e a b (added e) (chain_count (slices_of e)) (λ x y. takes_summed e 204 Carry.Zero x y h)
takes_operator e Op.Sub (a ∷ b ∷ []) h w = takes_both e a b (subtracted e) (chain_count (slices_of e)) (λ x y. takes_summed e 51 Carry.One x y h)
takes_operator e Op.Mul (a ∷ b ∷ []) h w =
    let wa = factor_width (is_any_signed a b) e a.form in
    let wb = factor_width (is_any_signed a b) e b.form in
    takes_both e a b (λ x y. product e x wa y wb) (product_count e wa wb) (λ x y. takes_product e x wa y wb)
takes_operator e Op.Less (a ∷ b ∷ []) h w = takes_less a b (wider_some a.form b.form w.0)
takes_operator e Op.GreaterEqual (a ∷ b ∷ []) h w = takes_greater_equal a b (wider_some a.form b.form w.0)
takes_operator e Op.Greater (a ∷ b ∷ []) h w = takes_less b a (wider_some b.form a.form w.1.0)
takes_operator e Op.LessEqual (a ∷ b ∷ []) h w = takes_greater_equal b a (wider_some b.form a.form w.1.0)
takes_operator e Op.Equal (a ∷ b ∷ []) h w = takes_equal table_c a b (compared_some a b w.0)
takes_operator e Op.NotEqual (a ∷ b ∷ []) h w = takes_equal table_not_c a b (compared_some a b w.0)
takes_operator e (Op.Left k) (a ∷ []) h w = takes_moved_left e a.form.width k a.slices
takes_operator e (Op.Right k) (a ∷ []) h w = takes_moved_right e k a
takes_operator e (Op.Slice high low) (a ∷ []) h w = takes_extracted e a.form.width low a.slices
takes_operator e Op.Fit (a ∷ []) h w = takes_extracted e a.form.width 0 a.slices
takes_operator e Op.Cat (a ∷ b ∷ []) h w = takes_concatenated e a b
takes_operator e Op.LeftBy (a ∷ by ∷ []) h w = takes_moved_by true e a by
takes_operator e Op.RightBy (a ∷ by ∷ []) h w =
    let p = takes_either a.form.signed (signed_moved_by e a by) (moved_by false e a by) _ _ (takes_signed_moved e a by) (takes_moved_by false e a by) in
    record { at = λ u. p.at u ∙ go a.form.signed }
  where
    go : (s : Bool) → (if s then 2 + by.form.width + extract_count e a.form.width 0 else by.form.width + extract_count e a.form.width 0) ≡ (if s then 2 else 0) + by.form.width + extract_count e a.form.width 0
    go true = refl
    go false = omega arith
takes_operator e op args h w = takes_kept []

-- an operator's units at width w are as many as counted
pub takes_at : (w : ℕ) (op : Op) (args : List Argument) → 1 ≤ computed_bits w op (argument_forms args) → WideForms args → Takes (units_at w op args) (count_at w op (argument_forms args))
takes_at w op args h some =
    let fs = argument_forms args in
    let e = computed_bits w op fs in
    let f : Form = record { signed = gives_signed op fs; width = e } in
    let wide = λ (x : List Slice). widened (record { slices = x; form = f }) w in
    takes_filled (slices_of w) (followed_by (operator_units e op args) wide) (operator_count e op fs + widening_count f w)
    (takes_then (operator_units e op args) wide (operator_count e op fs) (widening_count f w) (takes_operator e op args h some) (λ x. takes_widened (record { slices = x; form = f }) w))
