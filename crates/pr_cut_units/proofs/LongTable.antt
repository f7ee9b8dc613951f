-- How many slices the value of every row of the table has.
use Rattle.std.proofs.Common.{◌≡◌, ◌<◌, ◌≤◌, ℕ, zero, suc, ◌+◌, ◌-◌, ◌/◌, ◌%◌, ◌==◌, ◌&&◌, Bool, true, false, List, [], ◌∷◌, length, nat_lt, take, max, min, refl, sym, subst, ap, ap₂, ◌∙◌, arith, length-append}
use Rattle.std.specs.Prelude.{cond}
use Rattle.std.specs.Bool.{if◌then◌else◌}
use Rattle.std.proofs.lemmas.Bool.{false≢true, ltb-false}
use Rattle.pr_base.specs.Numbers.{slices_of}
use Rattle.pr_base.specs.declared.choices.Carry.{Carry}
use Rattle.pr_flat.specs.declared.equations.Op.{Op}
use Rattle.pr_flat.specs.Forms.{signed_width}
use Rattle.pr_flat.specs.Rows.{natural_width}
use Rattle.pr_net.specs.declared.cells.Slice.{Slice}
use Rattle.pr_net.specs.declared.cells.Cell.{Cell}
use Rattle.pr_cut_units.specs.Cells.{table_c, table_not_c}
use Rattle.pr_cut_units.specs.Parts.{Making, each, in_turn, kept}
use Rattle.pr_cut_units.specs.declared.chains.Style.{Style}
use Rattle.pr_cut_units.specs.Chains.{places, chain, entries}
use Rattle.pr_cut_units.specs.Widening.{Argument, both_widened}
use Rattle.pr_cut_units.specs.Operators.{added, subtracted, is_any_signed, less, greater_equal, signed_less, unsigned_less, moved_left, extracted, moved_right, concatenated, ends_whole}
use Rattle.pr_cut_units.specs.Products.{row_width, row_cell, product_row, product}
use Rattle.pr_cut_units.specs.Shifts.{moved_by, signed_moved_by}
use Rattle.pr_cut_units.specs.Table.{operator_units, factor_width}
use Rattle.pr_cut_units.proofs.EachLemmas.{length-each}
use Rattle.pr_cut_units.proofs.CountNets.{is_stated}

long_places : (s : Style) (u room place : ℕ) (cells : List Cell) → length (places s u room place cells) ≡ length cells
long_places s u room place [] = refl
long_places s u zero place (k ∷ ks) = ap suc (long_places s (suc u) 3 (suc (entries s)) ks)
long_places s u (suc room) place (k ∷ ks) = ap suc (long_places s u room (suc place) ks)

long_chain : (s : Style) (first : Carry) (n : ℕ) (cell : ℕ → Cell) (u : ℕ) → length (chain s first (each n cell) u).slices ≡ n
long_chain s first n cell u = long_places s u 4 0 (each n cell) ∙ length-each cell n

long_either : (b : Bool) (m n : Making) (u k : ℕ) → length (m u).slices ≡ k → length (n u).slices ≡ k → length ((if b then m else n) u).slices ≡ k
long_either true m n u k h l = h
long_either false m n u k h l = l

-- ---- products
long_take : (n : ℕ) (x : List Slice) → n ≤ length x → length (take n x) ≡ n
long_take zero x h = refl
long_take (suc n) [] h = absurd (omega (arith, h))
long_take (suc n) (y ∷ x) h = ap suc (long_take n x (omega (arith, h)))

long_row : (e w : ℕ) (a b : List Slice) (j : ℕ) (before : List Slice) (u : ℕ) → j < e → j / 8 ≤ length before → length (product_row e w a b j before u).slices ≡ slices_of (row_width e w j)
long_row e w a b j before u l h =
    let n : ℕ = slices_of (row_width e w j) - j / 8 in
    let cell : ℕ → Cell = λ i. row_cell e w a b j before (j / 8 + i) in
    let high = long_chain Style.ByEntry Carry.Zero n cell u in
    let low = long_take (j / 8) before h in
    length-append (take (j / 8) before) (chain Style.ByEntry Carry.Zero (each n cell) u).slices ∙ ap₂ (λ (x y : ℕ). x + y) low high ∙ omega (arith, l)

long_rows : (e w : ℕ) (a b : List Slice) (j n : ℕ) (x : List Slice) (u : ℕ) → j + n < e → j / 8 ≤ length x → length (in_turn (product_row e w a b) j (suc n) x u).slices ≡ slices_of (row_width e w (j + n))
long_rows e w a b j zero x u l h = long_row e w a b j x u (omega (arith, l)) h ∙ ap (λ (k : ℕ). slices_of (row_width e w k)) (omega arith)
long_rows e w a b j (suc n) x u l h =
    let row = product_row e w a b j x u in
    let now = long_row e w a b j x u (omega (arith, l)) h in
    long_rows e w a b (j + 1) n row.slices (u + length row.units) (omega (arith, l)) (omega (arith, now, l)) ∙ ap (λ (k : ℕ). slices_of (row_width e w k)) (omega arith)

long_product : (e : ℕ) (a : List Slice) (wa : ℕ) (b : List Slice) (wb u : ℕ) → 1 ≤ e → 1 ≤ wb → e ≤ wa + wb → length (product e a wa b wb u).slices ≡ slices_of e
long_product e a wa b wb u some has few =
    let n : ℕ = min wb e - 1 in
    let more : min wb e ≡ suc n = omega (arith, some, has) in
    ap (λ (k : ℕ). length (in_turn (product_row e wa a b) 0 k [] u).slices) more ∙ long_rows e wa a b 0 n [] u (omega (arith, some, has)) (omega arith) ∙ ap slices_of (omega (arith, some, has, few))

-- of signed factors the widened ones are seen
long_multiplied : (e : ℕ) (a b : Argument) (x y : List Slice) (u : ℕ) → 1 ≤ e → e ≤ 128 → 1 ≤ b.form.width → e ≤ natural_width Op.Mul (a.form ∷ b.form ∷ []) → length (product e x (factor_width (is_any_signed a b) e a.form) y (factor_width (is_any_signed a b) e b.form) u).slices ≡ slices_of e
long_multiplied e a b x y u some few has nat = go (is_any_signed a b) refl
  where
    go : (t : Bool) → is_any_signed a b ≡ t → length (product e x (factor_width (is_any_signed a b) e a.form) y (factor_width (is_any_signed a b) e b.form) u).slices ≡ slices_of e
    go true is = rw is (long_product e x (factor_width true e a.form) y (factor_width true e b.form) u some (omega (arith, some)) (omega (arith, few)))
    go false is =
        let least : e ≤ a.form.width + b.form.width = subst (λ (t : Bool). e ≤ cond t (signed_width a.form + signed_width b.form) (a.form.width + b.form.width)) is nat in
        rw is (long_product e x a.form.width y b.form.width u some has least)

-- ---- the table
long_extracted : (e w l : ℕ) (x : List Slice) (u : ℕ) → length (extracted e w l x u).slices ≡ slices_of e
long_extracted e w l x u = long_either (l % 8 == 0 && ends_whole (l + e) w) _ _ u (slices_of e) (length-each _ (slices_of e)) (length-each _ (slices_of e))

long_moved_left : (e w k : ℕ) (x : List Slice) (u : ℕ) → length (moved_left e w k x u).slices ≡ slices_of e
long_moved_left e w k x u = long_either (k % 8 == 0 && ends_whole e (w + k)) _ _ u (slices_of e) (length-each _ (slices_of e)) (length-each _ (slices_of e))

long_concatenated : (e : ℕ) (a b : Argument) (u : ℕ) → length (concatenated e a b u).slices ≡ slices_of e
long_concatenated e a b u = long_either (b.form.width % 8 == 0 && ends_whole e (a.form.width + b.form.width)) _ _ u (slices_of e) (length-each _ (slices_of e)) (length-each _ (slices_of e))

long_moved_right : (e k : ℕ) (a : Argument) (u : ℕ) → 1 ≤ e → e ≤ natural_width (Op.Right k) (a.form ∷ []) → length (moved_right e k a u).slices ≡ slices_of e
long_moved_right e k a u some nat = long_either a.form.signed _ _ u (slices_of e) (long_extracted e a.form.width (min k (a.form.width - 1)) a.slices u) (rest (nat_lt k a.form.width) refl)
  where
    left : (s : Bool) → e ≤ cond s (max 1 (a.form.width - k)) (max 1 (a.form.width - k)) → e ≤ max 1 (a.form.width - k)
    left true h = h
    left false h = h

    rest : (t : Bool) → nat_lt k a.form.width ≡ t → length ((if t then extracted e a.form.width k a.slices else kept (Slice.Const 0 ∷ [])) u).slices ≡ slices_of e
    rest true is = long_extracted e a.form.width k a.slices u
    rest false is =
        let most : e ≤ max 1 (a.form.width - k) = left a.form.signed nat in
        let past : a.form.width ≤ k = ltb-false k a.form.width is in
        omega (arith, some, most, past)

long_less : (a b : Argument) (u : ℕ) → length (less a b u).slices ≡ 1
long_less a b u = long_either (is_any_signed a b) (signed_less table_c a b) (unsigned_less table_not_c a b) u 1 refl refl

long_greater_equal : (a b : Argument) (u : ℕ) → length (greater_equal a b u).slices ≡ 1
long_greater_equal a b u = long_either (is_any_signed a b) (signed_less table_not_c a b) (unsigned_less table_c a b) u 1 refl refl

long_both : (t : ℕ) (a b : Argument) (making : List Slice → List Slice → Making) (n : ℕ) → ((x y : List Slice) (v : ℕ) → length (making x y v).slices ≡ n) → (u : ℕ) → length (both_widened t a b making u).slices ≡ n
long_both t a b making n h u = h _ _ _

-- one slice is all that a comparison's bit takes
one_bit : (e : ℕ) (t : Bool) → 1 ≤ e → e ≤ cond t 1 1 → 1 ≡ slices_of e
one_bit e true some most = omega (arith, some, most)
one_bit e false some most = omega (arith, some, most)

-- e bits of an operator on one operand have a slice for each byte; e is at most its natural width
pub long_one : (e : ℕ) (op : Op) (a : Argument) (u : ℕ) → is_stated op ≡ false → 1 ≤ e → e ≤ natural_width op (a.form ∷ []) → length (operator_units e op (a ∷ []) u).slices ≡ slices_of e
long_one e Op.Not a u o some nat = length-each _ (slices_of e)
long_one e (Op.Left k) a u o some nat = long_moved_left e a.form.width k a.slices u
long_one e (Op.Right k) a u o some nat = long_moved_right e k a u some nat
long_one e (Op.Slice high low) a u o some nat = long_extracted e a.form.width low a.slices u
long_one e Op.Fit a u o some nat = long_extracted e a.form.width 0 a.slices u
long_one e (Op.Delay c) a u o some nat = absurd (false≢true (sym o))
long_one e op a u o some nat = absurd (omega (arith, some, nat))

pub long_two : (e : ℕ) (op : Op) (a b : Argument) (u : ℕ) → 1 ≤ e → e ≤ 128 → 1 ≤ b.form.width → e ≤ natural_width op (a.form ∷ b.form ∷ []) → length (operator_units e op (a ∷ b ∷ []) u).slices ≡ slices_of e
long_two e Op.And a b u some few has nat = length-each _ (slices_of e)
long_two e Op.Or a b u some few has nat = length-each _ (slices_of e)
long_two e Op.Xor a b u some few has nat = length-each _ (slices_of e)
long_two e Op.Add a b u some few has nat = long_both e a b (added e) (slices_of e) (λ x y v. long_chain Style.ByBit Carry.Zero (slices_of e) _ v) u
long_two e Op.Sub a b u some few has nat = long_both e a b (subtracted e) (slices_of e) (λ x y v. long_chain Style.ByBit Carry.One (slices_of e) _ v) u
long_two e Op.Mul a b u some few has nat = long_multiplied e a b _ _ _ some few has nat
long_two e Op.Less a b u some few has nat = long_less a b u ∙ one_bit e (is_any_signed a b) some nat
long_two e Op.GreaterEqual a b u some few has nat = long_greater_equal a b u ∙ one_bit e (is_any_signed a b) some nat
long_two e Op.Greater a b u some few has nat = long_less b a u ∙ one_bit e (is_any_signed a b) some nat
long_two e Op.LessEqual a b u some few has nat = long_greater_equal b a u ∙ one_bit e (is_any_signed a b) some nat
long_two e Op.Equal a b u some few has nat = one_bit e (is_any_signed a b) some nat
long_two e Op.NotEqual a b u some few has nat = one_bit e (is_any_signed a b) some nat
long_two e Op.Cat a b u some few has nat = long_concatenated e a b u
long_two e Op.LeftBy a b u some few has nat = long_extracted e a.form.width 0 _ _
long_two e Op.RightBy a b u some few has nat = long_either a.form.signed (signed_moved_by e a b) (moved_by false e a b) u (slices_of e) (long_extracted e a.form.width 0 _ _) (long_extracted e a.form.width 0 _ _)
long_two e op a b u some few has nat = absurd (omega (arith, some, nat))

pub long_choice : (e : ℕ) (c a b : Argument) (u : ℕ) → length (operator_units e Op.Choose (c ∷ a ∷ b ∷ []) u).slices ≡ slices_of e
long_choice e c a b u = length-each _ (slices_of e)
