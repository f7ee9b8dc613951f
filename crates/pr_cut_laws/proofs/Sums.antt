-- What the units of an operator show: bitwise operators, sums and differences, a choice, an inversion, shifts by constants, slices, concatenations.
use Rattle.std.proofs.Common.{ℕ, ◌≡◌, ◌+◌, ◌*◌, ◌-◌, ◌/◌, ◌%◌, ◌^◌, ◌<◌, ◌≤◌, ◌||◌, Bool, true, false, cond, nat_eq, bit_and, bit_or, bit_xor, [], ◌∷◌, subst, refl, ap, ap₂, sym, ◌∙◌, ℤ, pos, negsuc, ◌+ℤ◌, ◌-ℤ◌, ◌*ℤ◌, pow-add, arith}
use Rattle.std.specs.Int.{bit_at}
use Rattle.std.proofs.Math.Nat.{mod-eq_of_lt}
use Rattle.std.proofs.lemmas.Nat.{and_mod, or_mod, xor_mod, pow_pos, mul-mod_second}
use Rattle.pr_flat.specs.declared.equations.Op.{Op}
use Rattle.pr_flat.specs.declared.equations.Op.TheVariants.{Add, Sub, And, Or, Xor, Not, Choose, Left, Slice, Cat, Fit}
use Rattle.pr_flat.specs.declared.forms.Point.{Point}
use Rattle.pr_flat.specs.Forms.{IsPoint, value_at, residue, wider, wider_signed}
use Rattle.pr_flat.specs.Rows.{natural_width, natural_number}
use Rattle.pr_flat.proofs.FormLemmas.{residue-value}
use Rattle.pr_cut_units.proofs.Sums.{mod_scaled}
use Rattle.pr_flat_ops.proofs.Residues.{residue-pos, residue-mul, residue_narrower}
use Rattle.pr_net.specs.Reading.{Reading, Has, shown}
use Rattle.pr_net.specs.Runs.{AreBytes}
use Rattle.pr_cut_units.specs.Cells.{table_and, table_or, table_xor}
use Rattle.pr_cut_units.specs.Widening.{Argument, both_widened}
use Rattle.pr_cut_units.specs.Operators.{bitwise, chosen, added, subtracted}
use Rattle.pr_cut_units.specs.Table.{operator_units}
use Rattle.pr_cut_laws.proofs.Digits.{narrow}
use Rattle.pr_cut_laws.proofs.Shown.{operand_bytes}
use Rattle.pr_cut_laws.proofs.Plains.{Answers, and_answers, or_answers, xor_answers, bitwise_shows, inverted_shows, chosen_shows}
use Rattle.pr_cut_laws.proofs.ChainSums.{sum_shows, difference_shows}
use Rattle.pr_cut_laws.proofs.Moves.{extracted_shows, moved_left_shows, concatenated_shows}
use Rattle.pr_cut_laws.proofs.Wides.{Stands, point_of, IsArgument, BothWide, both_wide, first_stands, second_stands, stands_sum, stands_difference, stands_complement, stands_word}
use Rattle.pr_cut_laws.proofs.Finish.{low_of_value}
use Rattle.pr_cut_laws.proofs.Naturals.{natural_sum, natural_difference, natural_complement, natural_word, natural_choice, natural_left}

pub add_own : (r : Reading) (u e : ℕ) (a b : Argument) → 1 ≤ e → e ≤ natural_width Add (a.form ∷ b.form ∷ []) → AreBytes r → IsArgument r u a → IsArgument r u b → Has r u (operator_units e Op.Add (a ∷ b ∷ []) u).units → shown r (operator_units e Op.Add (a ∷ b ∷ []) u).slices ≡ natural_number Add (point_of r a ∷ point_of r b ∷ []) % 2 ^ e
add_own r u e a b some few bs ha hb h =
    let w : BothWide r u e a b (added e) = both_wide r u e a b (added e) bs ha hb h in
    let p : Point = point_of r a in
    let q : Point = point_of r b in
    ap (shown r) w.slices ∙ sum_shows r w.v e w.x w.y some bs (operand_bytes r w.v w.x bs w.known_x) (operand_bytes r w.v w.y bs w.known_y) w.has
    ∙ stands_sum r w.x w.y e (value_at p) (value_at q) (first_stands r u e a b (added e) bs w) (second_stands r u e a b (added e) bs w)
    ∙ low_of_value e (natural_width Add (a.form ∷ b.form ∷ [])) (natural_number Add (p ∷ q ∷ [])) (value_at p +ℤ value_at q) (natural_sum p q ha.point hb.point) few

pub sub_own : (r : Reading) (u e : ℕ) (a b : Argument) → 1 ≤ e → e ≤ natural_width Sub (a.form ∷ b.form ∷ []) → AreBytes r → IsArgument r u a → IsArgument r u b → Has r u (operator_units e Op.Sub (a ∷ b ∷ []) u).units → shown r (operator_units e Op.Sub (a ∷ b ∷ []) u).slices ≡ natural_number Sub (point_of r a ∷ point_of r b ∷ []) % 2 ^ e
sub_own r u e a b some few bs ha hb h =
    let w : BothWide r u e a b (subtracted e) = both_wide r u e a b (subtracted e) bs ha hb h in
    let p : Point = point_of r a in
    let q : Point = point_of r b in
    ap (shown r) w.slices ∙ difference_shows r w.v e w.x w.y some bs (operand_bytes r w.v w.x bs w.known_x) (operand_bytes r w.v w.y bs w.known_y) w.has
    ∙ stands_difference r w.x w.y e (value_at p) (value_at q) (first_stands r u e a b (subtracted e) bs w) (second_stands r u e a b (subtracted e) bs w)
    ∙ low_of_value e (natural_width Sub (a.form ∷ b.form ∷ [])) (natural_number Sub (p ∷ q ∷ [])) (value_at p -ℤ value_at q) (natural_difference p q) few

-- ---- bit by bit
abbrev word_width : Argument → Argument → ℕ
word_width a b = cond (a.form.signed || b.form.signed) (wider_signed a.form b.form) (wider a.form b.form)

word_own : (r : Reading) (u e table : ℕ) (g : ℕ → ℕ → ℕ) (a b : Argument) (n : ℕ) → 1 ≤ e → e ≤ word_width a b → Answers table g → AreBytes r → IsArgument r u a → IsArgument r u b → n ≡ residue (word_width a b) (pos (g (residue (word_width a b) (value_at (point_of r a))) (residue (word_width a b) (value_at (point_of r b))))) → Has r u (both_widened e a b (bitwise e table) u).units → shown r (both_widened e a b (bitwise e table) u).slices ≡ n % 2 ^ e
word_own r u e table g a b n some few t bs ha hb is h =
    let w : BothWide r u e a b (bitwise e table) = both_wide r u e a b (bitwise e table) bs ha hb h in
    let m : ℕ = word_width a b in
    let p : Point = point_of r a in
    let q : Point = point_of r b in
    ap (shown r) w.slices ∙ bitwise_shows r w.v e table g w.x w.y some t (operand_bytes r w.v w.x bs w.known_x) (operand_bytes r w.v w.y bs w.known_y) w.has
    ∙ stands_word r g w.x w.y e m (value_at p) (value_at q) t.cut few (first_stands r u e a b (bitwise e table) bs w) (second_stands r u e a b (bitwise e table) bs w)
    ∙ low_of_value e m n (pos (g (residue m (value_at p)) (residue m (value_at q)))) is few

pub and_own : (r : Reading) (u e : ℕ) (a b : Argument) → 1 ≤ e → e ≤ natural_width And (a.form ∷ b.form ∷ []) → AreBytes r → IsArgument r u a → IsArgument r u b → Has r u (operator_units e Op.And (a ∷ b ∷ []) u).units → shown r (operator_units e Op.And (a ∷ b ∷ []) u).slices ≡ natural_number And (point_of r a ∷ point_of r b ∷ []) % 2 ^ e
and_own r u e a b some few bs ha hb h = word_own r u e table_and bit_and a b (natural_number And (point_of r a ∷ point_of r b ∷ [])) some few and_answers bs ha hb (natural_word bit_and and_mod (point_of r a) (point_of r b) ha.point hb.point (a.form.signed || b.form.signed) refl) h

pub or_own : (r : Reading) (u e : ℕ) (a b : Argument) → 1 ≤ e → e ≤ natural_width Or (a.form ∷ b.form ∷ []) → AreBytes r → IsArgument r u a → IsArgument r u b → Has r u (operator_units e Op.Or (a ∷ b ∷ []) u).units → shown r (operator_units e Op.Or (a ∷ b ∷ []) u).slices ≡ natural_number Or (point_of r a ∷ point_of r b ∷ []) % 2 ^ e
or_own r u e a b some few bs ha hb h = word_own r u e table_or bit_or a b (natural_number Or (point_of r a ∷ point_of r b ∷ [])) some few or_answers bs ha hb (natural_word bit_or or_mod (point_of r a) (point_of r b) ha.point hb.point (a.form.signed || b.form.signed) refl) h

pub xor_own : (r : Reading) (u e : ℕ) (a b : Argument) → 1 ≤ e → e ≤ natural_width Xor (a.form ∷ b.form ∷ []) → AreBytes r → IsArgument r u a → IsArgument r u b → Has r u (operator_units e Op.Xor (a ∷ b ∷ []) u).units → shown r (operator_units e Op.Xor (a ∷ b ∷ []) u).slices ≡ natural_number Xor (point_of r a ∷ point_of r b ∷ []) % 2 ^ e
xor_own r u e a b some few bs ha hb h = word_own r u e table_xor bit_xor a b (natural_number Xor (point_of r a ∷ point_of r b ∷ [])) some few xor_answers bs ha hb (natural_word bit_xor xor_mod (point_of r a) (point_of r b) ha.point hb.point (a.form.signed || b.form.signed) refl) h

-- an operand as it stands, at no more bits than it has
pub own_stands : (r : Reading) (u e : ℕ) (a : Argument) → e ≤ a.form.width → AreBytes r → IsArgument r u a → Stands r a.slices e (value_at (point_of r a))
own_stands r u e a few bs ha = record { number = sym (residue-value a.form e (shown r a.slices) few); bytes = operand_bytes r u a.slices bs ha.known }

pub both_same : (s : Bool) (v : ℕ) → cond s v v ≡ v
both_same true v = refl
both_same false v = refl

pub not_own : (r : Reading) (u e : ℕ) (a : Argument) → 1 ≤ e → e ≤ natural_width Not (a.form ∷ []) → AreBytes r → IsArgument r u a → Has r u (operator_units e Op.Not (a ∷ []) u).units → shown r (operator_units e Op.Not (a ∷ []) u).slices ≡ natural_number Not (point_of r a ∷ []) % 2 ^ e
not_own r u e a some few bs ha h =
    let p : Point = point_of r a in
    let w : natural_width Not (a.form ∷ []) ≡ a.form.width = both_same a.form.signed a.form.width in
    let s : Stands r a.slices e (value_at p) = own_stands r u e a (omega (arith, few, w)) bs ha in
    inverted_shows r u e a.slices some s.bytes h ∙ stands_complement r a.slices e (value_at p) s
    ∙ low_of_value e (natural_width Not (a.form ∷ [])) (natural_number Not (p ∷ [])) (negsuc 0 -ℤ value_at p) (natural_complement p ha.point) few

-- a choice by a condition of one bit
pub choose_own : (r : Reading) (u e : ℕ) (c a b : Argument) → 1 ≤ e → e ≤ natural_width Choose (c.form ∷ a.form ∷ b.form ∷ []) → AreBytes r → IsArgument r u c → IsArgument r u a → IsArgument r u b → c.form.width ≡ 1 → Has r u (operator_units e Op.Choose (c ∷ a ∷ b ∷ []) u).units → shown r (operator_units e Op.Choose (c ∷ a ∷ b ∷ []) u).slices ≡ natural_number Choose (point_of r c ∷ point_of r a ∷ point_of r b ∷ []) % 2 ^ e
choose_own r u e c a b some few bs hc ha hb one h =
    let w : BothWide r u e a b (chosen e c.slices) = both_wide r u e a b (chosen e c.slices) bs ha hb h in
    let p : Point = point_of r a in
    let q : Point = point_of r b in
    let n : ℕ = shown r c.slices in
    let nl : n < 2 ^ 1 = subst (λ (i : ℕ). n < 2 ^ i) one hc.point.below in
    let n1 : bit_at n 0 ≡ n = omega (arith, nl) in
    let sa = first_stands r u e a b (chosen e c.slices) bs w in
    let sb = second_stands r u e a b (chosen e c.slices) bs w in
    ap (shown r) w.slices ∙ chosen_shows r w.v e c.slices w.x w.y some (operand_bytes r u c.slices bs hc.known) sa.bytes sb.bytes w.has
    ∙ ap (λ (i : ℕ). cond (nat_eq i 1) (shown r w.x) (shown r w.y) % 2 ^ e) n1 ∙ either (nat_eq n 1) (shown r w.x) (shown r w.y) (value_at p) (value_at q) sa.number sb.number
    ∙ low_of_value e (natural_width Choose (c.form ∷ a.form ∷ b.form ∷ [])) (natural_number Choose (point_of r c ∷ p ∷ q ∷ [])) (cond (nat_eq n 1) (value_at p) (value_at q)) (natural_choice (point_of r c) p q ha.point hb.point) few
  where
    either : (t : Bool) (x y : ℕ) (p q : ℤ) → x % 2 ^ e ≡ residue e p → y % 2 ^ e ≡ residue e q → cond t x y % 2 ^ e ≡ residue e (cond t p q)
    either true x y p q f g = f
    either false x y p q f g = g

-- ---- shifts by constants, slices, concatenations
-- a shift to the left
left_number_is : (k : ℕ) (p : Point) → IsPoint p → natural_number (Left k) (p ∷ []) ≡ p.number * 2 ^ k
left_number_is k p hp =
    let v : ℕ = p.form.width in
    let z : ℤ = value_at p in
    let m : ℕ = 2 ^ k in
    let low : residue (v + k) z % 2 ^ v ≡ p.number = residue_narrower (v + k) v z (omega arith) ∙ residue-value p.form v p.number (omega arith) ∙ mod-eq_of_lt hp.below in
    let two : 2 ^ (v + k) ≡ m * 2 ^ v = pow-add 2 v k ∙ turn (2 ^ v) m in
    let s : 0 + m * residue (v + k) z ≡ residue (v + k) z * m = turn0 m (residue (v + k) z) in
    let scaled : residue (v + k) z * m % 2 ^ (v + k) ≡ 0 + m * (residue (v + k) z % 2 ^ v) = ap₂ (λ (i j : ℕ). i % j) (sym s) two ∙ mod_scaled 0 m (residue (v + k) z) (2 ^ v) (pow_pos k) (pow_pos v) in
    natural_left k p hp ∙ ap (λ (i : ℕ). residue i (z *ℤ pos (2 ^ k))) (both_same p.form.signed (v + k)) ∙ residue-mul (v + k) z (pos (2 ^ k)) ∙ ap (λ (i : ℕ). residue (v + k) z * i % 2 ^ (v + k)) (residue-pos (v + k) (2 ^ k)) ∙ mul-mod_second (residue (v + k) z) (2 ^ k) (2 ^ (v + k)) ∙ scaled ∙ ap (λ (i : ℕ). 0 + m * i) low ∙ turn0 m p.number
  where
    turn : (a b : ℕ) → a * b ≡ b * a
    turn a b = omega arith

    turn0 : (a b : ℕ) → 0 + a * b ≡ b * a
    turn0 a b = omega arith

pub left_own : (r : Reading) (u e k : ℕ) (a : Argument) → 1 ≤ e → AreBytes r → IsArgument r u a → Has r u (operator_units e (Op.Left k) (a ∷ []) u).units → shown r (operator_units e (Op.Left k) (a ∷ []) u).slices ≡ natural_number (Left k) (point_of r a ∷ []) % 2 ^ e
left_own r u e k a some bs ha h =
    moved_left_shows r u e a.form.width k a.slices some (operand_bytes r u a.slices bs ha.known) ha.point.below h ∙ ap (λ (i : ℕ). i % 2 ^ e) (sym (left_number_is k (point_of r a) ha.point))

pub fit_own : (r : Reading) (u e : ℕ) (a : Argument) → 1 ≤ e → AreBytes r → IsArgument r u a → Has r u (operator_units e Op.Fit (a ∷ []) u).units → shown r (operator_units e Op.Fit (a ∷ []) u).slices ≡ natural_number Fit (point_of r a ∷ []) % 2 ^ e
fit_own r u e a some bs ha h =
    let one : shown r a.slices / 2 ^ 0 ≡ shown r a.slices = omega arith in
    extracted_shows r u e a.form.width 0 a.slices some (operand_bytes r u a.slices bs ha.known) ha.point.below h ∙ ap (λ (i : ℕ). i % 2 ^ e) one

pub slice_own : (r : Reading) (u e high low : ℕ) (a : Argument) → 1 ≤ e → e ≤ natural_width (Slice high low) (a.form ∷ []) → AreBytes r → IsArgument r u a → Has r u (operator_units e (Op.Slice high low) (a ∷ []) u).units → shown r (operator_units e (Op.Slice high low) (a ∷ []) u).slices ≡ natural_number (Slice high low) (point_of r a ∷ []) % 2 ^ e
slice_own r u e high low a some few bs ha h =
    extracted_shows r u e a.form.width low a.slices some (operand_bytes r u a.slices bs ha.known) ha.point.below h ∙ sym (narrow (shown r a.slices / 2 ^ low) e (high - low + 1) few)

pub cat_own : (r : Reading) (u e : ℕ) (a b : Argument) → 1 ≤ e → AreBytes r → IsArgument r u a → IsArgument r u b → Has r u (operator_units e Op.Cat (a ∷ b ∷ []) u).units → shown r (operator_units e Op.Cat (a ∷ b ∷ []) u).slices ≡ natural_number Cat (point_of r a ∷ point_of r b ∷ []) % 2 ^ e
cat_own r u e a b some bs ha hb h = concatenated_shows r u e a b some (operand_bytes r u a.slices bs ha.known) (operand_bytes r u b.slices bs hb.known) hb.point.below ha.point.below h
