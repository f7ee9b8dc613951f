-- Products, shifts by an operand, and shifts to the right, from their units to the natural number.
use Rattle.std.proofs.Common.{ℕ, zero, suc, ◌≡◌, ◌+◌, ◌*◌, ◌/◌, ◌%◌, ◌^◌, ◌-◌, ◌<◌, ◌≤◌, ◌||◌, min, max, Bool, true, false, cond, nat_lt, List, [], ◌∷◌, length, bit_and, ℤ, pos, negsuc, ◌-ℤ◌, ◌*ℤ◌, subst, refl, ap, ap₂, sym, ◌∙◌, inl, inr, pow-add, arith}
use Rattle.std.specs.Bool.{if◌then◌else◌}
use Rattle.std.specs.Int.{bit_at, int_div_euclid}
use Rattle.std.proofs.Math.Nat.{mod-lt, mod-eq_of_lt, mod-add-div, div-eq_of_lt, div-le_self, pow-le-pow_right, add-mul-mod_self_left, mul-add-div, zero-mod}
use Rattle.std.proofs.lemmas.Nat.{pow_pos, div_below, mul-mod_second}
use Rattle.std.proofs.lemmas.Bool.{cases_lt, ltb-false}
use borrow.Author.Differences.{ints}
use Rattle.pr_base.specs.Numbers.{slices_of}
use Rattle.pr_base.specs.Pe.{looked_up}
use Rattle.pr_flat.specs.declared.equations.Op.{Op}
use Rattle.pr_flat.specs.declared.equations.Op.TheVariants.{Mul, Right, LeftBy, RightBy}
use Rattle.pr_flat.specs.declared.forms.Form.{Form}
use Rattle.pr_flat.specs.declared.forms.Point.{Point}
use Rattle.pr_flat.specs.Forms.{value, value_at, residue, signed_width}
use Rattle.pr_flat.specs.Rows.{natural_width, natural_number}
use Rattle.pr_flat.proofs.FormLemmas.{residue-value}
use Rattle.pr_flat_ops.proofs.Residues.{residue-pos, residue-negsuc, residue-mul, residue_narrower, residue_below}
use Rattle.pr_net.specs.declared.cells.Slice.{Slice}
use Rattle.pr_net.specs.Reading.{Reading, wire_byte, Has, shown}
use Rattle.pr_net.specs.Runs.{AreBytes}
use Rattle.pr_cut_units.specs.Cells.{plain, byte, top, table_a_xor_c}
use Rattle.pr_cut_units.specs.Parts.{Making, Part, kept, followed_by}
use Rattle.pr_cut_units.specs.Widening.{Argument, sign_of, flipped}
use Rattle.pr_cut_units.specs.Operators.{is_any_signed, extracted, moved_right}
use Rattle.pr_cut_units.specs.Products.{product}
use Rattle.pr_cut_units.specs.Shifts.{shift_row, shifted_by, moved_by, signed_moved_by}
use Rattle.pr_cut_units.specs.Table.{factor_width, operator_units}
use Rattle.pr_cut_units.proofs.AddMeaning.{Bytes}
use Rattle.pr_cut_units.proofs.Operands.{AreOperands, operands_more, operands-each}
use Rattle.pr_cut_units.proofs.GoodParts.{GoodPart, good_turns}
use Rattle.pr_cut_units.proofs.GoodTable.{good_shift_row}
use Rattle.pr_cut_units.proofs.Tables.{byte_flipped_0, byte_flipped_1}
use Rattle.pr_cut_laws.proofs.Digits.{narrow}
use Rattle.pr_cut_laws.proofs.Shown.{byte_is, bit_is, unit_shows, unit_bytes, operand_bytes}
use Rattle.pr_cut_laws.proofs.Plains.{turned_bytes, byte_turned, turned_low}
use Rattle.pr_cut_laws.proofs.Moves.{extracted_shows}
use Rattle.pr_cut_laws.proofs.Products.{product_shows}
use Rattle.pr_cut_laws.proofs.Varies.{moved, shifted_shows}
use Rattle.pr_cut_laws.proofs.Values.{signed_form, unsigned_form, value_low, value_high, halves, top_low, top_high}
use Rattle.pr_cut_laws.proofs.Wides.{point_of, IsArgument, IsWide, BothWide, both_wide, first_stands, second_stands, stands_product, then_has}
use Rattle.pr_cut_laws.proofs.Finish.{low_of_value}
use Rattle.pr_cut_laws.proofs.Naturals.{natural_product, natural_left_by}
use Rattle.pr_cut_laws.proofs.Sums.{both_same}

-- ---- Flip
-- the number, or its complement in v bits
abbrev pub turned : ℕ → ℕ → ℕ → ℕ
turned v zero x = x
turned v (suc s) x = 2 ^ v - 1 - x

flipped_shows : (r : Reading) (u s : ℕ) (a : Argument) (x : List Slice) → 1 ≤ a.form.width → s < 2 → bit_at (shown r a.slices) (a.form.width - 1) ≡ s → Bytes r a.slices → Bytes r x → shown r x < 2 ^ a.form.width → Has r u (flipped a x u).units → shown r (flipped a x u).slices ≡ turned a.form.width s (shown r x)
flipped_shows r u zero a x hv hs e ha hx l h =
    let v : ℕ = a.form.width in
    unit_shows r u v (shown r x) (λ i. record plain { a = byte x i; c = sign_of a; table = table_a_xor_c; mask = top v i }) hv h
    (λ i d g. ap (λ (c : ℕ). bit_and (looked_up 90 (wire_byte r (byte x i)) 0 c) (top v i)) (bit_is r a.slices (v - 1) ha ∙ e) ∙ ap (λ (n : ℕ). bit_and n (top v i)) (byte_flipped_0 (wire_byte r (byte x i)) 0 (hx.at i) ∙ byte_is r x i hx))
    ∙ mod-eq_of_lt l
flipped_shows r u (suc zero) a x hv hs e ha hx l h =
    let v : ℕ = a.form.width in
    unit_shows r u v (turned_bytes (slices_of v) (shown r x)) (λ i. record plain { a = byte x i; c = sign_of a; table = table_a_xor_c; mask = top v i }) hv h
    (λ i d g. ap (λ (c : ℕ). bit_and (looked_up 90 (wire_byte r (byte x i)) 0 c) (top v i)) (bit_is r a.slices (v - 1) ha ∙ e) ∙ ap (λ (n : ℕ). bit_and n (top v i)) (byte_flipped_1 (wire_byte r (byte x i)) 0 (hx.at i) ∙ ap (λ (n : ℕ). 255 - n) (byte_is r x i hx) ∙ byte_turned (slices_of v) (shown r x) i g))
    ∙ turned_low (slices_of v) (shown r x) v (omega arith) ∙ ap (λ (n : ℕ). 2 ^ v - 1 - n) (mod-eq_of_lt l)
flipped_shows r u (suc (suc s)) a x hv hs e ha hx l h = absurd (omega arith)

-- a value divided, rounded down
pub divided_low : (v k x : ℕ) → x < 2 ^ (v - 1) → int_div_euclid (value (signed_form v) x) (pos (2 ^ k)) ≡ pos (x / 2 ^ k)
divided_low v k x l = rw (value_low v x l) refl

pub divided_high : (v k x : ℕ) → x < 2 ^ v → 2 ^ (v - 1) ≤ x → int_div_euclid (value (signed_form v) x) (pos (2 ^ k)) ≡ negsuc ((2 ^ v - 1 - x) / 2 ^ k)
divided_high v k x l h =
    let e : pos x -ℤ pos (2 ^ v) ≡ negsuc (2 ^ v - 1 - x) = omega (arith, ints, l) in
    rw (value_high v x h, e) refl

turned_small : (v s x : ℕ) → x < 2 ^ v → turned v s x < 2 ^ v
turned_small v zero x l = l
turned_small v (suc s) x l = omega (arith, l)

pub divided_flipped : (v k x : ℕ) → 1 ≤ v → x < 2 ^ v → turned v (x / 2 ^ (v - 1) % 2) (turned v (x / 2 ^ (v - 1) % 2) x / 2 ^ k) ≡ residue v (int_div_euclid (value (signed_form v) x) (pos (2 ^ k)))
divided_flipped v k x hv l = elim (cases_lt x (2 ^ (v - 1))) [
  | inl low ↦ (
      let s : x / 2 ^ (v - 1) % 2 ≡ 0 = top_low v x low in
      let small : x / 2 ^ k < 2 ^ v = omega (arith, div-le_self x (2 ^ k), l) in
      ap (λ (t : ℕ). turned v t (turned v t x / 2 ^ k)) s ∙ sym (ap (residue v) (divided_low v k x low) ∙ residue-pos v (x / 2 ^ k) ∙ mod-eq_of_lt small))
  | inr high ↦ (
      let s : x / 2 ^ (v - 1) % 2 ≡ 1 = top_high v x hv l high in
      let m : ℕ = 2 ^ v - 1 - x in
      let small : m / 2 ^ k < 2 ^ v = omega (arith, div-le_self m (2 ^ k), l) in
      ap (λ (t : ℕ). turned v t (turned v t x / 2 ^ k)) s ∙ sym (ap (residue v) (divided_high v k x l high) ∙ residue-negsuc v (m / 2 ^ k) ∙ ap (λ (i : ℕ). 2 ^ v - 1 - i) (mod-eq_of_lt small)))
]

-- a shift by a fixed number: no more than all but one bit
fixed : (k v m : ℕ) → m < 2 ^ (v - 1) → m / 2 ^ k ≡ m / 2 ^ min k (v - 1)
fixed k v m l = elim (cases_lt k (v - 1)) [
  | inl a ↦ ap (λ (i : ℕ). m / 2 ^ i) (omega (arith, a))
  | inr g ↦ (
      let e : min k (v - 1) ≡ v - 1 = omega (arith, g) in
      let two : 0 < 2 = omega arith in
      let more : 2 ^ (v - 1) ≤ 2 ^ k = pow-le-pow_right two g in
      let z : m / 2 ^ k ≡ 0 = div-eq_of_lt (omega (arith, l, more)) in
      let y : m / 2 ^ (v - 1) ≡ 0 = div-eq_of_lt l in
      z ∙ sym y ∙ ap (λ (i : ℕ). m / 2 ^ i) (sym e))
]

complement_divided : (p q m x : ℕ) → 0 < p → m < p * q → x + 1 + m ≡ p * q → (p * q - 1 - m / p) % q ≡ x / p
complement_divided zero q m x hp l e = absurd (omega arith)
complement_divided (suc p) q m x hp l e =
    let d : ℕ = m / suc p in
    let rest : m % suc p + suc p * d ≡ m = mod-add-div m (suc p) in
    let rl : m % suc p < suc p = mod-lt m hp in
    let dl : d < q = div_below m (suc p) q hp (omega (arith, l)) in
    let t : ℕ = q - 1 - d in
    let qt : q ≡ t + 1 + d = omega (arith, dl) in
    let pq : suc p * q ≡ suc p * t + suc p + suc p * d = ap (λ (i : ℕ). suc p * i) qt ∙ omega arith in
    let x_is : x ≡ suc p * t + (p - m % suc p) = omega (arith, pq, rest, e, rl) in
    let z : (p - m % suc p) / suc p ≡ 0 = div-eq_of_lt (omega (arith, rl)) in
    let xd : x / suc p ≡ t + (p - m % suc p) / suc p = ap (λ (i : ℕ). i / suc p) x_is ∙ mul-add-div {m = suc p} hp t (p - m % suc p) in
    let pq1 : suc p * q ≡ q + q * p = omega arith in
    let w : suc p * q - 1 - d ≡ t + q * p = omega (arith, pq1, qt) in
    ap (λ (i : ℕ). i % q) w ∙ add-mul-mod_self_left t q p ∙ mod-eq_of_lt (omega (arith, qt)) ∙ omega (arith, xd, z)

pub divided_fixed : (v k x : ℕ) → 1 ≤ v → x < 2 ^ v → residue (v - min k (v - 1)) (int_div_euclid (value (signed_form v) x) (pos (2 ^ k))) ≡ x / 2 ^ min k (v - 1)
divided_fixed v k x hv l =
    let j : ℕ = min k (v - 1) in
    let hj : j ≤ v - 1 = omega arith in
    let p : 2 ^ j * 2 ^ (v - j) ≡ 2 ^ v = sym (pow-add 2 j (v - j)) ∙ ap (λ (i : ℕ). 2 ^ i) (omega (arith, hj)) in
    let d2 : 2 ^ v ≡ 2 * 2 ^ (v - 1) = halves v hv in
    elim (cases_lt x (2 ^ (v - 1))) [
      | inl low ↦ (
          let s : x / 2 ^ j < 2 ^ (v - j) = div_below x (2 ^ j) (2 ^ (v - j)) (pow_pos j) (omega (arith, l, p)) in
          ap (residue (v - j)) (divided_low v k x low) ∙ residue-pos (v - j) (x / 2 ^ k) ∙ ap (λ (i : ℕ). i % 2 ^ (v - j)) (fixed k v x low) ∙ mod-eq_of_lt s)
      | inr high ↦ (
          let m : ℕ = 2 ^ v - 1 - x in
          let ml : m < 2 ^ (v - 1) = omega (arith, high, l, d2) in
          let c = complement_divided (2 ^ j) (2 ^ (v - j)) m x (pow_pos j) (omega (arith, p, l)) (omega (arith, p, l)) in
          let a : residue v (int_div_euclid (value (signed_form v) x) (pos (2 ^ k))) ≡ 2 ^ v - 1 - m / 2 ^ j = ap (residue v) (divided_high v k x l high) ∙ residue-negsuc v (m / 2 ^ k) ∙ ap (λ (i : ℕ). 2 ^ v - 1 - i) (mod-eq_of_lt (omega (arith, div-le_self m (2 ^ k), l)) ∙ fixed k v m ml) in
          sym (residue_narrower v (v - j) (int_div_euclid (value (signed_form v) x) (pos (2 ^ k))) (omega arith)) ∙ ap (λ (i : ℕ). i % 2 ^ (v - j)) a ∙ ap (λ (i : ℕ). (i - 1 - m / 2 ^ j) % 2 ^ (v - j)) (sym p) ∙ c)
    ]

-- ---- shifts to the right by a constant
right_by_kind : (s : Bool) (r : Reading) (u e k v : ℕ) (x : List Slice) → 1 ≤ e → 1 ≤ v → Bytes r x → shown r x < 2 ^ v → Has r u (moved_right e k (record { slices = x; form = record { signed = s; width = v } }) u).units → shown r (moved_right e k (record { slices = x; form = record { signed = s; width = v } }) u).slices ≡ natural_number (Right k) (record { form = record { signed = s; width = v }; number = shown r x } ∷ []) % 2 ^ e
right_by_kind true r u e k v x some hv hx l h =
    let j : ℕ = min k (v - 1) in
    let z : ℤ = int_div_euclid (value (signed_form v) (shown r x)) (pos (2 ^ k)) in
    let w : max 1 (v - k) ≡ v - j = omega arith in
    extracted_shows r u e v j x some hx l h ∙ ap (λ (n : ℕ). n % 2 ^ e) (sym (ap (λ (i : ℕ). residue i z) w ∙ divided_fixed v k (shown r x) hv l))
right_by_kind false r u e k v x some hv hx l h = go (nat_lt k v) refl h
  where
    go : (t : Bool) → nat_lt k v ≡ t → Has r u ((if t then extracted e v k x else kept (Slice.Const 0 ∷ [])) u).units → shown r ((if t then extracted e v k x else kept (Slice.Const 0 ∷ [])) u).slices ≡ shown r x / 2 ^ k % 2 ^ e
    go true is has = extracted_shows r u e v k x some hx l has
    go false is has =
        let two : 0 < 2 = omega arith in
        let more : 2 ^ v ≤ 2 ^ k = pow-le-pow_right two (ltb-false k v is) in
        let z : shown r x / 2 ^ k ≡ 0 = div-eq_of_lt (omega (arith, l, more)) in
        let n : shown r (Slice.Const 0 ∷ []) ≡ 0 = omega arith in
        n ∙ sym (ap (λ (i : ℕ). i % 2 ^ e) z ∙ zero-mod (2 ^ e))

pub right_own : (r : Reading) (u e k : ℕ) (a : Argument) → 1 ≤ e → AreBytes r → IsArgument r u a → Has r u (operator_units e (Op.Right k) (a ∷ []) u).units → shown r (operator_units e (Op.Right k) (a ∷ []) u).slices ≡ natural_number (Right k) (point_of r a ∷ []) % 2 ^ e
right_own r u e k a some bs ha h = right_by_kind a.form.signed r u e k a.form.width a.slices some ha.point.form.positive (operand_bytes r u a.slices bs ha.known) ha.point.below h

-- ---- shifts by an operand
good_shifted : (u : ℕ) (left : Bool) (w : ℕ) (by : List Slice) (bits : ℕ) (x : List Slice) → AreOperands u by → AreOperands u x → GoodPart u (shifted_by left w by bits x u)
good_shifted u left w by bits x hb hx = good_turns u u 0 bits (shift_row left w by) x (good_shift_row u left w by hb) (omega arith) hx

-- the last bits of a value whose slices are known
last_bits : (r : Reading) (u e v : ℕ) (x : List Slice) → 1 ≤ e → Bytes r x → shown r x < 2 ^ v → Has r u (extracted e v 0 x u).units → shown r (extracted e v 0 x u).slices ≡ shown r x % 2 ^ e
last_bits r u e v x some hx l h =
    let one : shown r x / 2 ^ 0 ≡ shown r x = omega arith in
    extracted_shows r u e v 0 x some hx l h ∙ ap (λ (i : ℕ). i % 2 ^ e) one

moved_shows : (left : Bool) (r : Reading) (u e : ℕ) (a by : Argument) → 1 ≤ e → AreBytes r → IsArgument r u a → IsArgument r u by → Has r u (moved_by left e a by u).units → shown r (moved_by left e a by u).slices ≡ moved left (shown r a.slices) (shown r by.slices) % 2 ^ a.form.width % 2 ^ e
moved_shows left r u e a by some bs ha hb h =
    let v : ℕ = a.form.width in
    let rows : Making = shifted_by left v by.slices by.form.width a.slices in
    let p : Part = rows u in
    let t : ℕ = u + length p.units in
    let two = then_has r u rows (λ x. extracted e v 0 x) h in
    let good : GoodPart u p = good_shifted u left v by.slices by.form.width a.slices hb.known ha.known in
    let is : shown r p.slices ≡ moved left (shown r a.slices) (shown r by.slices) % 2 ^ v = shifted_shows left r u v by.form.width by.slices a.slices ha.point.form.positive ha.point.form.greatest bs hb.known ha.known ha.point.below hb.point.below two.0 in
    let few : shown r p.slices < 2 ^ v = subst (λ (i : ℕ). i < 2 ^ v) (sym is) (mod-lt (moved left (shown r a.slices) (shown r by.slices)) (pow_pos v)) in
    last_bits r t e v p.slices some (operand_bytes r t p.slices bs good.slices) few two.1 ∙ ap (λ (i : ℕ). i % 2 ^ e) is

left_by_number : (p q : Point) → p.number < 2 ^ p.form.width → natural_number LeftBy (p ∷ q ∷ []) ≡ p.number * 2 ^ q.number % 2 ^ p.form.width
left_by_number p q l =
    let v : ℕ = p.form.width in
    let z : ℤ = value_at p in
    natural_left_by p q ∙ ap (λ (i : ℕ). residue i (z *ℤ pos (2 ^ q.number))) (both_same p.form.signed v) ∙ residue-mul v z (pos (2 ^ q.number)) ∙ ap₂ (λ (i j : ℕ). i * j % 2 ^ v) (residue-value p.form v p.number (omega arith) ∙ mod-eq_of_lt l) (residue-pos v (2 ^ q.number)) ∙ mul-mod_second p.number (2 ^ q.number) (2 ^ v)

pub left_by_own : (r : Reading) (u e : ℕ) (a by : Argument) → 1 ≤ e → AreBytes r → IsArgument r u a → IsArgument r u by → Has r u (operator_units e Op.LeftBy (a ∷ by ∷ []) u).units → shown r (operator_units e Op.LeftBy (a ∷ by ∷ []) u).slices ≡ natural_number LeftBy (point_of r a ∷ point_of r by ∷ []) % 2 ^ e
left_by_own r u e a by some bs ha hb h = moved_shows true r u e a by some bs ha hb h ∙ ap (λ (i : ℕ). i % 2 ^ e) (sym (left_by_number (point_of r a) (point_of r by) ha.point.below))

flipped_known : (u : ℕ) (a : Argument) (x : List Slice) → AreOperands (u + length (flipped a x u).units) (flipped a x u).slices
flipped_known u a x = operands-each (u + 1) (slices_of a.form.width) (λ i. Slice.Of u i) (λ i. record { before = omega arith; byte = tt })

-- a flip, the rows, a flip
signed_moved_shows : (r : Reading) (u e : ℕ) (a by : Argument) → 1 ≤ e → AreBytes r → IsArgument r u a → IsArgument r u by → Has r u (signed_moved_by e a by u).units → shown r (signed_moved_by e a by u).slices ≡ residue a.form.width (int_div_euclid (value (signed_form a.form.width) (shown r a.slices)) (pos (2 ^ shown r by.slices))) % 2 ^ e
signed_moved_shows r u e a by some bs ha hb h =
    let v : ℕ = a.form.width in
    let x : ℕ = shown r a.slices in
    let k : ℕ = shown r by.slices in
    let s : ℕ = x / 2 ^ (v - 1) % 2 in
    let hs : s < 2 = omega arith in
    let hv : 1 ≤ v = ha.point.form.positive in
    let l : x < 2 ^ v = ha.point.below in
    let ba : Bytes r a.slices = operand_bytes r u a.slices bs ha.known in
    let last : List Slice → Making = λ z. extracted e v 0 z in
    let third : List Slice → Making = λ y. followed_by (flipped a y) last in
    let second : List Slice → Making = λ x. followed_by (shifted_by false v by.slices by.form.width x) third in
    let p : Part = flipped a a.slices u in
    let u1 : ℕ = u + length p.units in
    let one = then_has r u (flipped a a.slices) second h in
    let b1 : Bytes r p.slices = unit_bytes r u (slices_of v) bs in
    let f : shown r p.slices ≡ turned v s x = flipped_shows r u s a a.slices hv hs refl ba ba l one.0 in
    let fl : shown r p.slices < 2 ^ v = subst (λ (i : ℕ). i < 2 ^ v) (sym f) (turned_small v s x l) in
    let kp : AreOperands u1 p.slices = flipped_known u a a.slices in
    let rows : Making = shifted_by false v by.slices by.form.width p.slices in
    let q : Part = rows u1 in
    let u2 : ℕ = u1 + length q.units in
    let two = then_has r u1 rows third one.1 in
    let kb : AreOperands u1 by.slices = operands_more u u1 by.slices (omega arith) hb.known in
    let gq : GoodPart u1 q = good_shifted u1 false v by.slices by.form.width p.slices kb kp in
    let small : shown r p.slices / 2 ^ k < 2 ^ v = omega (arith, div-le_self (shown r p.slices) (2 ^ k), fl) in
    let g : shown r q.slices ≡ turned v s x / 2 ^ k = shifted_shows false r u1 v by.form.width by.slices p.slices hv ha.point.form.greatest bs kb kp fl hb.point.below two.0 ∙ mod-eq_of_lt small ∙ ap (λ (i : ℕ). i / 2 ^ k) f in
    let gl : shown r q.slices < 2 ^ v = subst (λ (i : ℕ). i < 2 ^ v) (ap (λ (i : ℕ). i / 2 ^ k) f ∙ sym g) small in
    let t : Part = flipped a q.slices u2 in
    let u3 : ℕ = u2 + length t.units in
    let three = then_has r u2 (flipped a q.slices) last two.1 in
    let n : ℕ = residue v (int_div_euclid (value (signed_form v) x) (pos (2 ^ k))) in
    let is : shown r t.slices ≡ n = flipped_shows r u2 s a q.slices hv hs refl ba (operand_bytes r u2 q.slices bs gq.slices) gl three.0 ∙ ap (turned v s) g ∙ divided_flipped v k x hv l in
    let few : shown r t.slices < 2 ^ v = subst (λ (i : ℕ). i < 2 ^ v) (sym is) (residue_below v (int_div_euclid (value (signed_form v) x) (pos (2 ^ k)))) in
    last_bits r u3 e v t.slices some (unit_bytes r u2 (slices_of v) bs) few three.1 ∙ ap (λ (i : ℕ). i % 2 ^ e) is

right_by_by : (s : Bool) (r : Reading) (u e v : ℕ) (x : List Slice) (by : Argument) → 1 ≤ e → e ≤ v → AreBytes r → IsArgument r u (record { slices = x; form = record { signed = s; width = v } }) → IsArgument r u by → Has r u (operator_units e Op.RightBy (record { slices = x; form = record { signed = s; width = v } } ∷ by ∷ []) u).units → shown r (operator_units e Op.RightBy (record { slices = x; form = record { signed = s; width = v } } ∷ by ∷ []) u).slices ≡ natural_number RightBy (record { form = record { signed = s; width = v }; number = shown r x } ∷ point_of r by ∷ []) % 2 ^ e
right_by_by true r u e v x by some few bs ha hb h = signed_moved_shows r u e (record { slices = x; form = signed_form v }) by some bs ha hb h
right_by_by false r u e v x by some few bs ha hb h = moved_shows false r u e (record { slices = x; form = unsigned_form v }) by some bs ha hb h ∙ narrow (shown r x / 2 ^ shown r by.slices) e v few

pub right_by_own : (r : Reading) (u e : ℕ) (a by : Argument) → 1 ≤ e → e ≤ a.form.width → AreBytes r → IsArgument r u a → IsArgument r u by → Has r u (operator_units e Op.RightBy (a ∷ by ∷ []) u).units → shown r (operator_units e Op.RightBy (a ∷ by ∷ []) u).slices ≡ natural_number RightBy (point_of r a ∷ point_of r by ∷ []) % 2 ^ e
right_by_own r u e a by some few bs ha hb h = right_by_by a.form.signed r u e a.form.width a.slices by some few bs ha hb h

-- ---- products
factor_holds : (r : Reading) (any : Bool) (e n : ℕ) (f : Form) (x : List Slice) → e ≤ 128 → f.width ≤ 128 → 1 ≤ f.width → n < 2 ^ f.width → (any ≡ false → f.signed ≡ false) → IsWide r f e n x → (shown r x < 2 ^ factor_width any e f) × (1 ≤ factor_width any e f)
factor_holds r true e n f x he hf some l plain w =
    let two : 0 < 2 = omega arith in
    let g : f.width ≤ signed_width f = grown f.signed f.width in
    let m : max f.width e ≤ min 128 (max e (signed_width f)) = omega (arith, g, he, hf) in
    let more : 2 ^ max f.width e ≤ 2 ^ min 128 (max e (signed_width f)) = pow-le-pow_right two m in
    (omega (arith, w.below, more), omega (arith, g, some))
  where
    grown : (s : Bool) (v : ℕ) → v ≤ cond s v (v + 1)
    grown true v = omega arith
    grown false v = omega arith
factor_holds r false e n f x he hf some l plain w = (subst (λ (i : ℕ). i < 2 ^ f.width) (sym (w.plain (plain refl))) l, some)

either_plain : (s t : Bool) → (s || t) ≡ false → (s ≡ false) × (t ≡ false)
either_plain false t e = (refl, e)
either_plain true t e = absurd (grind (arith, e))

abbrev times : ℕ → Argument → Argument → List Slice → List Slice → Making
times e a b = λ x y. product e x (factor_width (is_any_signed a b) e a.form) y (factor_width (is_any_signed a b) e b.form)

pub mul_own : (r : Reading) (u e : ℕ) (a b : Argument) → 1 ≤ e → e ≤ 128 → e ≤ natural_width Mul (a.form ∷ b.form ∷ []) → AreBytes r → IsArgument r u a → IsArgument r u b → Has r u (operator_units e Op.Mul (a ∷ b ∷ []) u).units → shown r (operator_units e Op.Mul (a ∷ b ∷ []) u).slices ≡ natural_number Mul (point_of r a ∷ point_of r b ∷ []) % 2 ^ e
mul_own r u e a b some top few bs ha hb h =
    let any : Bool = is_any_signed a b in
    let p : Point = point_of r a in
    let q : Point = point_of r b in
    let w : BothWide r u e a b (times e a b) = both_wide r u e a b (times e a b) bs ha hb h in
    let fa = factor_holds r any e (shown r a.slices) a.form w.x top ha.point.form.greatest ha.point.form.positive ha.point.below (λ z. (either_plain a.form.signed b.form.signed z).0) w.first in
    let fb = factor_holds r any e (shown r b.slices) b.form w.y top hb.point.form.greatest hb.point.form.positive hb.point.below (λ z. (either_plain a.form.signed b.form.signed z).1) w.second in
    ap (shown r) w.slices ∙ (product_shows r w.v e (factor_width any e a.form) (factor_width any e b.form) w.x w.y some fb.1 bs w.known_x w.known_y fa.0 fb.0 w.has).0
    ∙ stands_product r w.x w.y e (value_at p) (value_at q) (first_stands r u e a b (times e a b) bs w) (second_stands r u e a b (times e a b) bs w)
    ∙ low_of_value e (natural_width Mul (a.form ∷ b.form ∷ [])) (natural_number Mul (p ∷ q ∷ [])) (value_at p *ℤ value_at q) (natural_product p q ha.point hb.point) few

-- a signed product has all its slices
pub mul_long : (r : Reading) (u e : ℕ) (a b : Argument) → 1 ≤ e → e ≤ 128 → AreBytes r → IsArgument r u a → IsArgument r u b → is_any_signed a b ≡ true → Has r u (operator_units e Op.Mul (a ∷ b ∷ []) u).units → e / 8 ≤ length (operator_units e Op.Mul (a ∷ b ∷ []) u).slices
mul_long r u e a b some top bs ha hb signed h =
    let any : Bool = is_any_signed a b in
    let w : BothWide r u e a b (times e a b) = both_wide r u e a b (times e a b) bs ha hb h in
    let fa = factor_holds r any e (shown r a.slices) a.form w.x top ha.point.form.greatest ha.point.form.positive ha.point.below (λ z. (either_plain a.form.signed b.form.signed z).0) w.first in
    let fb = factor_holds r any e (shown r b.slices) b.form w.y top hb.point.form.greatest hb.point.form.positive hb.point.below (λ z. (either_plain a.form.signed b.form.signed z).1) w.second in
    let long : length (product e w.x (factor_width any e a.form) w.y (factor_width any e b.form) w.v).slices ≡ slices_of (min e (factor_width any e a.form + min (factor_width any e b.form) e)) = (product_shows r w.v e (factor_width any e a.form) (factor_width any e b.form) w.x w.y some fb.1 bs w.known_x w.known_y fa.0 fb.0 w.has).1 in
    let wide : e ≤ factor_width any e a.form = subst (λ (t : Bool). e ≤ factor_width t e a.form) (sym signed) (room (signed_width a.form) top) in
    let all : min e (factor_width any e a.form + min (factor_width any e b.form) e) ≡ e = omega (arith, wide) in
    let len : length (operator_units e Op.Mul (a ∷ b ∷ []) u).slices ≡ slices_of e = ap length w.slices ∙ long ∙ ap slices_of all in
    omega (arith, len)
  where
    room : (v : ℕ) → e ≤ 128 → e ≤ min 128 (max e v)
    room v t = omega (arith, t)
