-- Comparisons, from their units to the natural number.
use Rattle.std.proofs.Common.{ℕ, zero, suc, ◌≡◌, ◌+◌, ◌*◌, ◌/◌, ◌%◌, ◌^◌, ◌-◌, ◌<◌, ◌≤◌, ◌||◌, ◌&&◌, Bool, true, false, cond, not, nat_lt, nat_le, nat_eq, List, [], ◌∷◌, length, ℤ, pos, ◌+ℤ◌, ◌-ℤ◌, int_lt, subst, refl, ap, ap₂, sym, ◌∙◌, inl, inr, arith}
use Rattle.std.specs.Bool.{if◌then◌else◌}
use Rattle.std.specs.Int.{bit_at}
use Rattle.std.proofs.Math.Nat.{mod-eq_of_lt, div-eq_of_lt, pow-le-pow_right, add-mul-mod_self_left, le-max_left, le-max_right}
use Rattle.std.proofs.lemmas.Nat.{pow_pos, pow-add, div_below, le-div}
use Rattle.std.proofs.lemmas.Bool.{cases_lt, cases_order, lt-ltb, le-ltb, eq-eqb, ne_eqb}
use borrow.Author.Differences.{ints}
use Rattle.pr_base.specs.Numbers.{slices_of}
use Rattle.pr_base.specs.Pe.{looked_up}
use Rattle.pr_flat.specs.declared.equations.Op.TheVariants.{Equal, NotEqual, Less, LessEqual, Greater, GreaterEqual}
use Rattle.pr_flat.specs.declared.forms.Form.{Form}
use Rattle.pr_flat.specs.Forms.{value, value_at, residue, signed_width, wider, wider_signed}
use Rattle.pr_flat.specs.Rows.{natural_number, bit}
use Rattle.pr_flat_ops.proofs.Residues.{residue-pos, residue_is, residue_below}
use Rattle.pr_flat_ops.proofs.Values.{value_unsigned}
use Rattle.pr_flat_ops.proofs.Wrapping.{plain as both_plain}
use Rattle.pr_net.specs.declared.cells.Slice.{Slice}
use Rattle.pr_net.specs.declared.cells.Wire.{Wire}
use Rattle.pr_net.specs.declared.cells.Cell.{Cell}
use Rattle.pr_net.specs.Reading.{Reading, wire_byte, cell_byte, Has, shown}
use Rattle.pr_net.specs.Runs.{AreBytes}
use Rattle.pr_cut_units.specs.Cells.{plain, byte, bit_of, table_c, table_not_c}
use Rattle.pr_cut_units.specs.Parts.{Making, Part, each, followed_by}
use Rattle.pr_cut_units.specs.Widening.{Argument, both_widened}
use Rattle.pr_cut_units.specs.Operators.{is_any_signed, subtracted, unsigned_less, sign_unit, signed_less, less, greater_equal, compared_width, equal}
use Rattle.pr_cut_units.specs.Chains.{closed_chain}
use Rattle.pr_cut_units.proofs.AddMeaning.{Bytes}
use Rattle.pr_cut_units.proofs.GoodParts.{GoodPart}
use Rattle.pr_cut_units.proofs.GoodTable.{good_summed}
use Rattle.pr_base.specs.declared.choices.Carry.{Carry}
use Rattle.pr_cut_laws.proofs.Digits.{bytes_pow}
use Rattle.pr_cut_laws.proofs.Shown.{bit_is, unit_byte, operand_bytes}
use Rattle.pr_cut_laws.proofs.ChainSums.{difference_shows}
use Rattle.pr_cut_laws.proofs.Compared.{one_slice, equal_cell, less_shows, equal_shows}
use Rattle.pr_cut_laws.proofs.Values.{unsigned_form, value_low, value_high, halves}
use Rattle.pr_cut_laws.proofs.Wides.{point_of, IsArgument, BothWide, both_wide, first_stands, second_stands, stands_difference, then_has}

-- a value that m bits hold
pub record Within (m : ℕ) (z : ℤ) : Type 0 where
  pub up : ℕ
  pub below : up < 2 ^ m
  pub is : z +ℤ pos (2 ^ (m - 1)) ≡ pos up

within_by : (s : Bool) (v m n : ℕ) → 1 ≤ v → n < 2 ^ v → cond s v (v + 1) ≤ m → Within m (value (record { signed = s; width = v }) n)
within_by false v m n hv l h =
    let two : 0 < 2 = omega arith in
    let more : 2 ^ v ≤ 2 ^ (m - 1) = pow-le-pow_right two (omega arith) in
    let d : 2 ^ m ≡ 2 * 2 ^ (m - 1) = halves m (omega arith) in
    let e : value (unsigned_form v) n ≡ pos n = value_unsigned (unsigned_form v) n refl in
    rw e (record { up = n + 2 ^ (m - 1); below = omega (arith, more, d, l); is = omega (arith, ints) })
within_by true v m n hv l h =
    let two : 0 < 2 = omega arith in
    let more : 2 ^ (v - 1) ≤ 2 ^ (m - 1) = pow-le-pow_right two (omega arith) in
    let d : 2 ^ m ≡ 2 * 2 ^ (m - 1) = halves m (omega arith) in
    let dv : 2 ^ v ≡ 2 * 2 ^ (v - 1) = halves v hv in
    elim (cases_lt n (2 ^ (v - 1))) [
      | inl low ↦ rw (value_low v n low) (record { up = n + 2 ^ (m - 1); below = omega (arith, more, d, low); is = omega (arith, ints) })
      | inr high ↦ rw (value_high v n high) (record { up = n + 2 ^ (m - 1) - 2 ^ v; below = omega (arith, more, d, dv, l, high); is = omega (arith, ints, more, d, dv, l, high) })
    ]

pub within : (f : Form) (m n : ℕ) → 1 ≤ f.width → n < 2 ^ f.width → signed_width f ≤ m → Within m (value f n)
within f m n hv l h = within_by f.signed f.width m n hv l h

-- the top bit of the difference
top_number : (m k l : ℕ) (x : ℕ) → k < 2 ^ m → l < 2 ^ m → x ≡ (k + (2 ^ (m + 1) - l)) % 2 ^ (m + 1) → x / 2 ^ m % 2 ≡ cond (nat_lt k l) 1 0
top_number m k l x hk hl e =
    let p : ℕ = 2 ^ m in
    let d : 2 ^ (m + 1) ≡ 2 * p = pow-add 2 m 1 ∙ omega arith in
    elim (cases_lt k l) [
      | inl h ↦ (
          let s : k + (2 ^ (m + 1) - l) < 2 ^ (m + 1) = omega (arith, d, hk, hl, h) in
          let is : x ≡ k + (2 ^ (m + 1) - l) = e ∙ mod-eq_of_lt s in
          let a : x / p < 2 = div_below x p 2 (pow_pos m) (omega (arith, is, s, d)) in
          let b : 1 ≤ x / p = le-div 1 x p (pow_pos m) (omega (arith, is, d, hl)) in
          rw (lt-ltb k l h) (omega (arith, a, b)))
      | inr h ↦ (
          let f : k + (2 ^ (m + 1) - l) ≡ (k - l) + 2 ^ (m + 1) = omega (arith, d, hl, h) in
          let g : ((k - l) + 2 ^ (m + 1)) % 2 ^ (m + 1) ≡ k - l = wrapped (k - l) (2 ^ (m + 1)) (omega (arith, d, hk)) in
          let is : x ≡ k - l = e ∙ ap (λ (i : ℕ). i % 2 ^ (m + 1)) f ∙ g in
          let small : k - l < 2 ^ m = omega (arith, hk) in
          let none : (k - l) / 2 ^ m ≡ 0 = div-eq_of_lt small in
          rw (le-ltb k l h) (ap (λ (i : ℕ). i / 2 ^ m % 2) is ∙ ap (λ (i : ℕ). i % 2) none))
    ]
  where
    wrapped : (a b : ℕ) → a < b → (a + b) % b ≡ a
    wrapped a b h = let e : a + b ≡ a + b * 1 = omega arith in ap (λ (i : ℕ). i % b) e ∙ add-mul-mod_self_left a b 1 ∙ mod-eq_of_lt h

pub top_of_difference : (m : ℕ) (y z : ℤ) → Within m y → Within m z → residue (m + 1) (y -ℤ z) / 2 ^ m % 2 ≡ bit (int_lt y z)
top_of_difference m y z p q =
    let d : 2 ^ (m + 1) ≡ 2 * 2 ^ m = pow-add 2 m 1 ∙ omega arith in
    let one : 1 * 2 ^ (m + 1) ≡ 2 ^ (m + 1) = omega arith in
    let e : residue (m + 1) (y -ℤ z) ≡ (p.up + (2 ^ (m + 1) - q.up)) % 2 ^ (m + 1) = residue_is (m + 1) (y -ℤ z) 1 (p.up + (2 ^ (m + 1) - q.up)) (rw one (omega (arith, ints, p.is, q.is, p.below, q.below, d))) in
    let o : int_lt y z ≡ nat_lt p.up q.up = grind (arith, ints, p.is, q.is) in
    top_number m p.up q.up (residue (m + 1) (y -ℤ z)) p.below q.below e ∙ ap bit (sym o)

-- a shift by half of the modulus
half_low : (k h n : ℕ) → n ≡ 2 * h → k < h → (k + h) % n ≡ k + h
half_low k h n e l = mod-eq_of_lt (omega (arith, e, l))

half_high : (k h n : ℕ) → n ≡ 2 * h → h ≤ k → k < n → (k + h) % n ≡ k - h
half_high k h n e l g =
    let f : k + h ≡ (k - h) + n * 1 = omega (arith, e, l) in
    ap (λ (i : ℕ). i % n) f ∙ add-mul-mod_self_left (k - h) n 1 ∙ mod-eq_of_lt (omega (arith, g, l))

half_differs : (k l h n : ℕ) → n ≡ 2 * h → k < l → l < n → (k + h) % n ≡ (l + h) % n → ⊥
half_differs k l h n e hk hl same = elim (cases_lt k h) [
  | inl a ↦ elim (cases_lt l h) [
    | inl b ↦ absurd (omega (arith, half_low k h n e a, half_low l h n e b, same, hk))
    | inr b ↦ absurd (omega (arith, half_low k h n e a, half_high l h n e b hl, same, hk, hl, e))
  ]
  | inr a ↦ elim (cases_lt l h) [
    | inl b ↦ absurd (omega (arith, a, b, hk))
    | inr b ↦ absurd (omega (arith, half_high k h n e a (omega (arith, hk, hl)), half_high l h n e b hl, same, hk, a, b))
  ]
]

-- two values that m bits hold are one where their residues are
pub same_residues : (m : ℕ) (y z : ℤ) → 1 ≤ m → Within m y → Within m z → nat_eq (residue m y) (residue m z) ≡ (not (int_lt y z) && not (int_lt z y))
same_residues m y z hm p q =
    let h : ℕ = 2 ^ (m - 1) in
    let d : 2 ^ m ≡ 2 * h = halves m hm in
    let one : 1 * 2 ^ m ≡ 2 ^ m = omega arith in
    let a : residue m y ≡ (p.up + h) % 2 ^ m = residue_is m y 1 (p.up + h) (rw one (omega (arith, ints, p.is, d))) in
    let b : residue m z ≡ (q.up + h) % 2 ^ m = residue_is m z 1 (q.up + h) (rw one (omega (arith, ints, q.is, d))) in
    let i : int_lt y z ≡ nat_lt p.up q.up = grind (arith, ints, p.is, q.is) in
    let j : int_lt z y ≡ nat_lt q.up p.up = grind (arith, ints, p.is, q.is) in
    ap₂ nat_eq a b ∙ turned p.up q.up h (2 ^ m) d p.below q.below ∙ ap₂ (λ (s t : Bool). not s && not t) (sym i) (sym j)
  where
    turned : (k l h n : ℕ) → n ≡ 2 * h → k < n → l < n → nat_eq ((k + h) % n) ((l + h) % n) ≡ (not (nat_lt k l) && not (nat_lt l k))
    turned k l h n e hk hl = elim (cases_order k l) [
      | inl same ↦ rw same (rw (eq-eqb ((l + h) % n) ((l + h) % n) refl, le-ltb l l (omega arith)) refl)
      | inr other ↦ elim other [
        | inl a ↦ rw (ne_eqb ((k + h) % n) ((l + h) % n) (half_differs k l h n e a hl), lt-ltb k l a) refl
        | inr a ↦ rw (ne_eqb ((k + h) % n) ((l + h) % n) (λ s. half_differs l k h n e a hk (sym s)), lt-ltb l k a, le-ltb k l (omega (arith, a))) refl
      ]
    ]

-- ---- signed or mixed operands: the sign of a difference
sign_byte : (r : Reading) (d : List Slice) (m s c : ℕ) → s < 2 → bit_at (shown r d) m ≡ s → Bytes r d → (cell_byte r (record plain { c = bit_of d m; table = table_c; mask = 1 }) c ≡ s) × (cell_byte r (record plain { c = bit_of d m; table = table_not_c; mask = 1 }) c ≡ 1 - s)
unfolding looked_up
sign_byte r d m zero c h e b = let t : bit_at (wire_byte r (byte d (m / 8))) (m % 8) ≡ 0 = bit_is r d m b ∙ e in (rw t refl, rw t refl)
sign_byte r d m (suc zero) c h e b = let t : bit_at (wire_byte r (byte d (m / 8))) (m % 8) ≡ 1 = bit_is r d m b ∙ e in (rw t refl, rw t refl)
sign_byte r d m (suc (suc s)) c h e b = absurd (omega arith)

bit_below : (t : Bool) → bit t < 2
bit_below true = omega arith
bit_below false = omega arith

bit_not : (t : Bool) → 1 - bit t ≡ bit (not t)
bit_not true = refl
bit_not false = refl

pub wide_of : (r : Reading) (u : ℕ) (a : Argument) (m : ℕ) → IsArgument r u a → signed_width a.form ≤ m → Within m (value_at (point_of r a))
wide_of r u a m h l = within a.form m (shown r a.slices) h.point.form.positive h.point.below l

signed_less_shows : (r : Reading) (u : ℕ) (a b : Argument) → AreBytes r → IsArgument r u a → IsArgument r u b
    → (Has r u (signed_less table_c a b u).units → shown r (signed_less table_c a b u).slices ≡ bit (int_lt (value_at (point_of r a)) (value_at (point_of r b))))
    × (Has r u (signed_less table_not_c a b u).units → shown r (signed_less table_not_c a b u).slices ≡ bit (not (int_lt (value_at (point_of r a)) (value_at (point_of r b)))))
signed_less_shows r u a b bs ha hb = (
  (λ h. (by table_c h).0 refl),
  (λ h. (by table_not_c h).1 refl),
)
  where
    m : ℕ
    m = wider_signed a.form b.form

    y : ℤ
    y = value_at (point_of r a)

    z : ℤ
    z = value_at (point_of r b)

    making : ℕ → List Slice → List Slice → Making
    making table = λ x y. followed_by (subtracted (m + 1) x y) (sign_unit m table)

    by : (table : ℕ) → Has r u (both_widened (m + 1) a b (making table) u).units → (table ≡ table_c → shown r (both_widened (m + 1) a b (making table) u).slices ≡ bit (int_lt y z)) × (table ≡ table_not_c → shown r (both_widened (m + 1) a b (making table) u).slices ≡ bit (not (int_lt y z)))
    by table h =
        let w : BothWide r u (m + 1) a b (making table) = both_wide r u (m + 1) a b (making table) bs ha hb h in
        let p : Part = subtracted (m + 1) w.x w.y w.v in
        let t : ℕ = w.v + length p.units in
        let two = then_has r w.v (subtracted (m + 1) w.x w.y) (sign_unit m table) w.has in
        let sx = first_stands r u (m + 1) a b (making table) bs w in
        let sy = second_stands r u (m + 1) a b (making table) bs w in
        let lp : signed_width a.form ≤ m = le-max_left (signed_width a.form) (signed_width b.form) in
        let lq : signed_width b.form ≤ m = le-max_right (signed_width a.form) (signed_width b.form) in
        let good : GoodPart w.v p = (good_summed w.v (m + 1) 51 Carry.One tt).at w.v w.x w.y (omega arith) w.known_x w.known_y in
        let bp : Bytes r p.slices = operand_bytes r t p.slices bs good.slices in
        let d : shown r p.slices ≡ residue (m + 1) (y -ℤ z) = difference_shows r w.v (m + 1) w.x w.y (omega arith) bs sx.bytes sy.bytes two.0 ∙ stands_difference r w.x w.y (m + 1) y z sx sy in
        let e : bit_at (shown r p.slices) m ≡ bit (int_lt y z) = ap (λ (i : ℕ). i / 2 ^ m % 2) d ∙ top_of_difference m y z (wide_of r u a m ha lp) (wide_of r u b m hb lq) in
        let q : List Slice = p.slices in
        let cell : ℕ → Cell = λ i. record plain { c = bit_of q m; table = table; mask = 1 } in
        let s = λ (c : ℕ). sign_byte r q m (bit (int_lt y z)) c (bit_below (int_lt y z)) e bp in
        let out : shown r (both_widened (m + 1) a b (making table) u).slices ≡ wire_byte r (Wire.Of t 0) = ap (shown r) w.slices ∙ one_slice r (Slice.Of t 0) in (
          (λ is. out ∙ unit_byte r t 1 cell 0 (bit (int_lt y z)) two.1 (omega arith) (λ c. ap (λ (k : ℕ). cell_byte r (record plain { c = bit_of q m; table = k; mask = 1 }) c) is ∙ (s c).0)),
          (λ is. out ∙ unit_byte r t 1 cell 0 (bit (not (int_lt y z))) two.1 (omega arith) (λ c. ap (λ (k : ℕ). cell_byte r (record plain { c = bit_of q m; table = k; mask = 1 }) c) is ∙ (s c).1 ∙ bit_not (int_lt y z))),
        )

-- ---- the natural number of a comparison
bit_small : (t : Bool) → bit t % 2 ^ 1 ≡ bit t
bit_small true = refl
bit_small false = refl

-- the truth that a comparison tells
either_truth : (s : Bool) (t u : Bool) → cond s (residue (cond s 1 1) (pos (bit t))) (bit u) ≡ bit (cond s t u)
either_truth true t u = residue-pos 1 (bit t) ∙ bit_small t
either_truth false t u = refl

bytes_hold : (f : ℕ) (v n : ℕ) → n < 2 ^ v → v ≤ 8 * f → n < 256 ^ f
bytes_hold f v n l h =
    let two : 0 < 2 = omega arith in
    let more : 2 ^ v ≤ 2 ^ (8 * f) = pow-le-pow_right two h in
    omega (arith, l, more, bytes_pow f)

unsigned_less_shows : (r : Reading) (u : ℕ) (a b : Argument) → AreBytes r → IsArgument r u a → IsArgument r u b
    → (Has r u (unsigned_less table_not_c a b u).units → shown r (unsigned_less table_not_c a b u).slices ≡ bit (nat_lt (shown r a.slices) (shown r b.slices)))
    × (Has r u (unsigned_less table_c a b u).units → shown r (unsigned_less table_c a b u).slices ≡ bit (nat_le (shown r b.slices) (shown r a.slices)))
unsigned_less_shows r u a b bs ha hb =
    let v : ℕ = wider a.form b.form in
    let va : a.form.width ≤ v = le-max_left a.form.width b.form.width in
    let vb : b.form.width ≤ v = le-max_right a.form.width b.form.width in
    less_shows r u (slices_of v) a.slices b.slices (omega (arith, va, ha.point.form.positive)) bs (operand_bytes r u a.slices bs ha.known) (operand_bytes r u b.slices bs hb.known)
    (bytes_hold (slices_of v) a.form.width (shown r a.slices) ha.point.below (omega (arith, va))) (bytes_hold (slices_of v) b.form.width (shown r b.slices) hb.point.below (omega (arith, vb)))

less_is : (r : Reading) (u : ℕ) (a b : Argument) → AreBytes r → IsArgument r u a → IsArgument r u b → Has r u (less a b u).units → shown r (less a b u).slices ≡ bit (cond (is_any_signed a b) (int_lt (value_at (point_of r a)) (value_at (point_of r b))) (nat_lt (shown r a.slices) (shown r b.slices)))
less_is r u a b bs ha hb h = go (is_any_signed a b) h
  where
    go : (s : Bool) → Has r u ((if s then signed_less table_c a b else unsigned_less table_not_c a b) u).units → shown r ((if s then signed_less table_c a b else unsigned_less table_not_c a b) u).slices ≡ bit (cond s (int_lt (value_at (point_of r a)) (value_at (point_of r b))) (nat_lt (shown r a.slices) (shown r b.slices)))
    go true has = (signed_less_shows r u a b bs ha hb).0 has
    go false has = (unsigned_less_shows r u a b bs ha hb).0 has

greater_equal_is : (r : Reading) (u : ℕ) (a b : Argument) → AreBytes r → IsArgument r u a → IsArgument r u b → Has r u (greater_equal a b u).units → shown r (greater_equal a b u).slices ≡ bit (cond (is_any_signed a b) (not (int_lt (value_at (point_of r a)) (value_at (point_of r b)))) (nat_le (shown r b.slices) (shown r a.slices)))
greater_equal_is r u a b bs ha hb h = go (is_any_signed a b) h
  where
    go : (s : Bool) → Has r u ((if s then signed_less table_not_c a b else unsigned_less table_c a b) u).units → shown r ((if s then signed_less table_not_c a b else unsigned_less table_c a b) u).slices ≡ bit (cond s (not (int_lt (value_at (point_of r a)) (value_at (point_of r b)))) (nat_le (shown r b.slices) (shown r a.slices)))
    go true has = (signed_less_shows r u a b bs ha hb).1 has
    go false has = (unsigned_less_shows r u a b bs ha hb).1 has

or_turned : (s t : Bool) → (s || t) ≡ (t || s)
or_turned true true = refl
or_turned true false = refl
or_turned false true = refl
or_turned false false = refl

pub less_own : (r : Reading) (u : ℕ) (a b : Argument) → AreBytes r → IsArgument r u a → IsArgument r u b → Has r u (less a b u).units → shown r (less a b u).slices ≡ natural_number Less (point_of r a ∷ point_of r b ∷ []) % 2 ^ 1
less_own r u a b bs ha hb h =
    let t : Bool = int_lt (value_at (point_of r a)) (value_at (point_of r b)) in
    let n : Bool = nat_lt (shown r a.slices) (shown r b.slices) in
    let s : Bool = is_any_signed a b in
    less_is r u a b bs ha hb h ∙ sym (ap (λ (i : ℕ). i % 2 ^ 1) (either_truth s t n) ∙ bit_small (cond s t n))

pub greater_equal_own : (r : Reading) (u : ℕ) (a b : Argument) → AreBytes r → IsArgument r u a → IsArgument r u b → Has r u (greater_equal a b u).units → shown r (greater_equal a b u).slices ≡ natural_number GreaterEqual (point_of r a ∷ point_of r b ∷ []) % 2 ^ 1
greater_equal_own r u a b bs ha hb h =
    let t : Bool = not (int_lt (value_at (point_of r a)) (value_at (point_of r b))) in
    let n : Bool = nat_le (shown r b.slices) (shown r a.slices) in
    let s : Bool = is_any_signed a b in
    greater_equal_is r u a b bs ha hb h ∙ sym (ap (λ (i : ℕ). i % 2 ^ 1) (either_truth s t n) ∙ bit_small (cond s t n))

pub greater_own : (r : Reading) (u : ℕ) (a b : Argument) → AreBytes r → IsArgument r u a → IsArgument r u b → Has r u (less b a u).units → shown r (less b a u).slices ≡ natural_number Greater (point_of r a ∷ point_of r b ∷ []) % 2 ^ 1
greater_own r u a b bs ha hb h =
    let t : Bool = int_lt (value_at (point_of r b)) (value_at (point_of r a)) in
    let n : Bool = nat_lt (shown r b.slices) (shown r a.slices) in
    let s : Bool = is_any_signed a b in
    less_is r u b a bs hb ha h ∙ ap (λ (i : Bool). bit (cond i t n)) (or_turned b.form.signed a.form.signed) ∙ sym (ap (λ (i : ℕ). i % 2 ^ 1) (either_truth s t n) ∙ bit_small (cond s t n))

pub less_equal_own : (r : Reading) (u : ℕ) (a b : Argument) → AreBytes r → IsArgument r u a → IsArgument r u b → Has r u (greater_equal b a u).units → shown r (greater_equal b a u).slices ≡ natural_number LessEqual (point_of r a ∷ point_of r b ∷ []) % 2 ^ 1
less_equal_own r u a b bs ha hb h =
    let t : Bool = not (int_lt (value_at (point_of r b)) (value_at (point_of r a))) in
    let n : Bool = nat_le (shown r a.slices) (shown r b.slices) in
    let s : Bool = is_any_signed a b in
    greater_equal_is r u b a bs hb ha h ∙ ap (λ (i : Bool). bit (cond i t n)) (or_turned b.form.signed a.form.signed) ∙ sym (ap (λ (i : ℕ). i % 2 ^ 1) (either_truth s t n) ∙ bit_small (cond s t n))

-- ---- equality
equal_at : (r : Reading) (u m : ℕ) (a b : Argument) → a.form.width ≤ m → b.form.width ≤ m → AreBytes r → IsArgument r u a → IsArgument r u b
    → (Has r u (both_widened m a b (λ x y. closed_chain Carry.One table_c (each (slices_of m) (equal_cell x y))) u).units → shown r (both_widened m a b (λ x y. closed_chain Carry.One table_c (each (slices_of m) (equal_cell x y))) u).slices ≡ bit (nat_eq (residue m (value_at (point_of r a))) (residue m (value_at (point_of r b)))))
    × (Has r u (both_widened m a b (λ x y. closed_chain Carry.One table_not_c (each (slices_of m) (equal_cell x y))) u).units → shown r (both_widened m a b (λ x y. closed_chain Carry.One table_not_c (each (slices_of m) (equal_cell x y))) u).slices ≡ bit (not (nat_eq (residue m (value_at (point_of r a))) (residue m (value_at (point_of r b))))))
equal_at r u m a b la lb bs ha hb = (
  (λ h. let w = both_wide r u m a b (making table_c) bs ha hb h in ap (shown r) w.slices ∙ (tests table_c w).0 w.has ∙ ap₂ (λ (i j : ℕ). bit (nat_eq i j)) (w.first.exact la) (w.second.exact lb)),
  (λ h. let w = both_wide r u m a b (making table_not_c) bs ha hb h in ap (shown r) w.slices ∙ (tests table_not_c w).1 w.has ∙ ap₂ (λ (i j : ℕ). bit (not (nat_eq i j))) (w.first.exact la) (w.second.exact lb)),
)
  where
    making : ℕ → List Slice → List Slice → Making
    making closing = λ x y. closed_chain Carry.One closing (each (slices_of m) (equal_cell x y))

    tests : (closing : ℕ) (w : BothWide r u m a b (making closing))
        → (Has r w.v (closed_chain Carry.One 240 (each (slices_of m) (equal_cell w.x w.y)) w.v).units → shown r (closed_chain Carry.One 240 (each (slices_of m) (equal_cell w.x w.y)) w.v).slices ≡ bit (nat_eq (shown r w.x) (shown r w.y)))
        × (Has r w.v (closed_chain Carry.One 15 (each (slices_of m) (equal_cell w.x w.y)) w.v).units → shown r (closed_chain Carry.One 15 (each (slices_of m) (equal_cell w.x w.y)) w.v).slices ≡ bit (not (nat_eq (shown r w.x) (shown r w.y))))
    tests closing w =
        let lx : shown r w.x < 2 ^ m = subst (λ (i : ℕ). i < 2 ^ m) (sym (w.first.exact la)) (residue_below m (value_at (point_of r a))) in
        let ly : shown r w.y < 2 ^ m = subst (λ (i : ℕ). i < 2 ^ m) (sym (w.second.exact lb)) (residue_below m (value_at (point_of r b))) in
        equal_shows r w.v (slices_of m) w.x w.y (omega (arith, la, ha.point.form.positive)) bs (operand_bytes r w.v w.x bs w.known_x) (operand_bytes r w.v w.y bs w.known_y)
        (bytes_hold (slices_of m) m (shown r w.x) lx (omega arith)) (bytes_hold (slices_of m) m (shown r w.y) ly (omega arith))

grown : (s : Bool) (v : ℕ) → v ≤ cond s v (v + 1)
grown true v = omega arith
grown false v = omega arith

-- equality of the residues is that of the values, signed or not
same_values : (r : Reading) (u : ℕ) (a b : Argument) (s : Bool) → is_any_signed a b ≡ s → IsArgument r u a → IsArgument r u b → nat_eq (residue (cond s (wider_signed a.form b.form) (wider a.form b.form)) (value_at (point_of r a))) (residue (cond s (wider_signed a.form b.form) (wider a.form b.form)) (value_at (point_of r b))) ≡ cond s (not (int_lt (value_at (point_of r a)) (value_at (point_of r b))) && not (int_lt (value_at (point_of r b)) (value_at (point_of r a)))) (nat_eq (shown r a.slices) (shown r b.slices))
same_values r u a b true is ha hb =
    let m : ℕ = wider_signed a.form b.form in
    let lp : signed_width a.form ≤ m = le-max_left (signed_width a.form) (signed_width b.form) in
    let lq : signed_width b.form ≤ m = le-max_right (signed_width a.form) (signed_width b.form) in
    let g : a.form.width ≤ signed_width a.form = grown a.form.signed a.form.width in
    same_residues m (value_at (point_of r a)) (value_at (point_of r b)) (omega (arith, ha.point.form.positive, g, lp)) (wide_of r u a m ha lp) (wide_of r u b m hb lq)
same_values r u a b false is ha hb =
    let m : ℕ = wider a.form b.form in
    let s = both_plain (point_of r a) (point_of r b) is in
    let la : shown r a.slices < 2 ^ m = more (shown r a.slices) a.form.width m ha.point.below (le-max_left a.form.width b.form.width) in
    let lb : shown r b.slices < 2 ^ m = more (shown r b.slices) b.form.width m hb.point.below (le-max_right a.form.width b.form.width) in
    ap₂ nat_eq (ap (residue m) s.0 ∙ residue-pos m (shown r a.slices) ∙ mod-eq_of_lt la) (ap (residue m) s.1 ∙ residue-pos m (shown r b.slices) ∙ mod-eq_of_lt lb)
  where
    more : (n v w : ℕ) → n < 2 ^ v → v ≤ w → n < 2 ^ w
    more n v w l h =
        let two : 0 < 2 = omega arith in
        omega (arith, l, pow-le-pow_right two h)

width_holds : (s : Bool) (a b : Argument) → (a.form.width ≤ cond s (wider_signed a.form b.form) (wider a.form b.form)) × (b.form.width ≤ cond s (wider_signed a.form b.form) (wider a.form b.form))
width_holds true a b =
    let ga : a.form.width ≤ signed_width a.form = grown a.form.signed a.form.width in
    let gb : b.form.width ≤ signed_width b.form = grown b.form.signed b.form.width in
    (omega (arith, ga, le-max_left (signed_width a.form) (signed_width b.form)), omega (arith, gb, le-max_right (signed_width a.form) (signed_width b.form)))
width_holds false a b = (le-max_left a.form.width b.form.width, le-max_right a.form.width b.form.width)

pub equal_own : (r : Reading) (u : ℕ) (a b : Argument) → AreBytes r → IsArgument r u a → IsArgument r u b → Has r u (equal table_c a b u).units → shown r (equal table_c a b u).slices ≡ natural_number Equal (point_of r a ∷ point_of r b ∷ []) % 2 ^ 1
equal_own r u a b bs ha hb h =
    let s : Bool = is_any_signed a b in
    let t : Bool = not (int_lt (value_at (point_of r a)) (value_at (point_of r b))) && not (int_lt (value_at (point_of r b)) (value_at (point_of r a))) in
    let n : Bool = nat_eq (shown r a.slices) (shown r b.slices) in
    let w = width_holds s a b in
    (equal_at r u (compared_width a b) a b w.0 w.1 bs ha hb).0 h ∙ ap bit (same_values r u a b s refl ha hb) ∙ sym (ap (λ (i : ℕ). i % 2 ^ 1) (either_truth s t n) ∙ bit_small (cond s t n))

pub not_equal_own : (r : Reading) (u : ℕ) (a b : Argument) → AreBytes r → IsArgument r u a → IsArgument r u b → Has r u (equal table_not_c a b u).units → shown r (equal table_not_c a b u).slices ≡ natural_number NotEqual (point_of r a ∷ point_of r b ∷ []) % 2 ^ 1
not_equal_own r u a b bs ha hb h =
    let s : Bool = is_any_signed a b in
    let p : Bool = int_lt (value_at (point_of r a)) (value_at (point_of r b)) in
    let q : Bool = int_lt (value_at (point_of r b)) (value_at (point_of r a)) in
    let n : Bool = nat_eq (shown r a.slices) (shown r b.slices) in
    let w = width_holds s a b in
    (equal_at r u (compared_width a b) a b w.0 w.1 bs ha hb).1 h ∙ ap (λ (i : Bool). bit (not i)) (same_values r u a b s refl ha hb) ∙ ap bit (turned s p q n)
    ∙ sym (ap (λ (i : ℕ). i % 2 ^ 1) (either_truth s (p || q) (not n)) ∙ bit_small (cond s (p || q) (not n)))
  where
    turned : (s p q n : Bool) → not (cond s (not p && not q) n) ≡ cond s (p || q) (not n)
    turned true true q n = refl
    turned true false true n = refl
    turned true false false n = refl
    turned false p q n = refl
