-- The values of numbers, and their 128 bits.
use Rattle.std.proofs.Common.{◌≡◌, ℕ, ◌+◌, ◌-◌, ◌*◌, ◌%◌, ◌^◌, ◌<◌, ◌≤◌, ◌&&◌, ◌⊎◌, inl, inr, true, false, nat_le, bit_or, pos, ◌-ℤ◌, refl, sym, ap, ◌∙◌, arith, lit<}
use Rattle.std.proofs.Math.Nat.{pow-le-pow_right, mod-eq_of_lt}
use Rattle.std.proofs.lemmas.Bool.{and_parts, and_from, and_cases, and_right, le-leb, lt-leb, leb-true, leb-false, cases_cond, cases_lt}
use Rattle.std.proofs.lemmas.Nat.{pow_pos, pow-add, or_comm, or_shifted}
use borrow.Author.Differences.{ints}
use Rattle.pr_flat.specs.declared.forms.Form.{Form}
use Rattle.pr_flat.specs.declared.forms.Point.{Point}
use Rattle.pr_flat.specs.Forms.{IsPoint, value, value_at, residue}
use Rattle.pr_flat_ops.specs.Wholes.{shows_sign}
use Rattle.pr_flat_ops.proofs.Residues.{residue-pos, residue_is}

pub value_unsigned : (f : Form) (n : ℕ) → f.signed ≡ false → value f n ≡ pos n
unfolding value
value_unsigned f n e = rw e refl

value_low : (f : Form) (n : ℕ) → n < 2 ^ (f.width - 1) → value f n ≡ pos n
unfolding value
value_low f n h = rw (and_right f.signed (nat_le (2 ^ (f.width - 1)) n) (lt-leb (2 ^ (f.width - 1)) n h)) refl

value_high : (f : Form) (n : ℕ) → f.signed ≡ true → 2 ^ (f.width - 1) ≤ n → value f n ≡ pos n -ℤ pos (2 ^ f.width)
unfolding value
value_high f n s h = rw (and_from f.signed (nat_le (2 ^ (f.width - 1)) n) s (le-leb (2 ^ (f.width - 1)) n h)) refl

value_cases : (f : Form) (n : ℕ) → (value f n ≡ pos n -ℤ pos (2 ^ f.width)) ⊎ (value f n ≡ pos n)
unfolding value
value_cases f n = cases_cond (f.signed && nat_le (2 ^ (f.width - 1)) n) (pos n -ℤ pos (2 ^ f.width)) (pos n) (value f n) refl

-- the low bits of a value are those of its number
residue_value : (w : ℕ) (f : Form) (n : ℕ) → w ≤ f.width → residue w (value f n) ≡ n % 2 ^ w
residue_value w f n h =
    let e : f.width - w + w ≡ f.width = omega arith in
    let product : 2 ^ (f.width - w) * 2 ^ w ≡ 2 ^ f.width = sym (pow-add 2 (f.width - w) w) ∙ ap (λ k. 2 ^ k) e in
    elim (value_cases f n) [
      | inl is ↦ ap (residue w) is ∙ residue_is w (pos n -ℤ pos (2 ^ f.width)) (2 ^ (f.width - w)) n (omega (arith, ints, product))
      | inr is ↦ ap (residue w) is ∙ residue-pos w n
    ]

-- 128 bits hold a number of fewer
within : (w n : ℕ) → w ≤ 128 → n < 2 ^ w → n < 2 ^ 128
within w n narrow below = let more : 2 ^ w ≤ 2 ^ 128 = pow-le-pow_right (lit< tt) narrow in omega arith

same_number : (w n p : ℕ) → w ≤ 128 → n < 2 ^ w → p ≡ n % 2 ^ 128 → p ≡ n
same_number w n p narrow below e = e ∙ mod-eq_of_lt (within w n narrow below)

pub point_bits : (p : Point) (x : ℕ) → IsPoint p → ((n : ℕ) → n < 2 ^ p.form.width → p.number ≡ n % 2 ^ 128 → x ≡ residue 128 (value p.form n)) → x ≡ residue 128 (value_at p)
point_bits p x h f = f p.number h.below (sym (mod-eq_of_lt (within p.form.width p.number h.form.greatest h.below)))

positive_value : (f : Form) (p : ℕ) → shows_sign f p ≡ false → f.width ≤ 128 → value f p ≡ pos p
positive_value f p e narrow =
    elim (and_cases f.signed (nat_le f.width 128 && nat_le (2 ^ (f.width - 1)) p) e) [
      | inl s ↦ value_unsigned f p s
      | inr t ↦ elim (and_cases (nat_le f.width 128) (nat_le (2 ^ (f.width - 1)) p) t) [
        | inl wide ↦ absurd (omega (arith, leb-false f.width 128 wide))
        | inr low ↦ value_low f p (leb-false (2 ^ (f.width - 1)) p low)
      ]
    ]

record Sign (f : Form) (p : ℕ) : Type 0 where
  signed : f.signed ≡ true
  narrow : f.width ≤ 128
  high : 2 ^ (f.width - 1) ≤ p

sign_of : (f : Form) (p : ℕ) → shows_sign f p ≡ true → Sign f p
sign_of f p e =
    let s = and_parts f.signed (nat_le f.width 128 && nat_le (2 ^ (f.width - 1)) p) e in
    let t = and_parts (nat_le f.width 128) (nat_le (2 ^ (f.width - 1)) p) s.1 in
    record { signed = s.0; narrow = leb-true f.width 128 t.0; high = leb-true (2 ^ (f.width - 1)) p t.1 }

pub positive_bits : (f : Form) (p n : ℕ) → shows_sign f p ≡ false → n < 2 ^ f.width → p ≡ n % 2 ^ 128 → p ≡ residue 128 (value f n)
positive_bits f p n e below is =
    elim (cases_lt 128 f.width) [
      | inl wide ↦ is ∙ sym (residue_value 128 f n (omega arith))
      | inr narrow ↦
          let same = same_number f.width n p narrow below is in
          let plain : value f n ≡ pos n = rw (← same) (positive_value f p e narrow) in
          is ∙ sym (ap (residue 128) plain ∙ residue-pos 128 n)
    ]

times_more : (q b m : ℕ) → (q + 1) * b ≡ m → q * b + b ≡ m
times_more q b m e = omega (arith, e)

-- ones above a number
joined : (w n x : ℕ) → w ≤ 128 → n < 2 ^ w → x ≡ 2 ^ 128 - 2 ^ w → bit_or n x ≡ n + (2 ^ 128 - 2 ^ w)
joined w n x narrow below is =
    let e : 128 - w + w ≡ 128 = omega arith in
    let one : 2 ^ (128 - w) - 1 + 1 ≡ 2 ^ (128 - w) = omega (arith, pow_pos (128 - w)) in
    let product : (2 ^ (128 - w) - 1 + 1) * 2 ^ w ≡ 2 ^ 128 = ap (λ k. k * 2 ^ w) one ∙ (sym (pow-add 2 (128 - w) w) ∙ ap (λ k. 2 ^ k) e) in
    let less = times_more (2 ^ (128 - w) - 1) (2 ^ w) (2 ^ 128) product in
    let turned : x ≡ (2 ^ (128 - w) - 1) * 2 ^ w = omega (arith, is, less) in
    ap (λ k. bit_or n k) turned ∙ (or_comm n ((2 ^ (128 - w) - 1) * 2 ^ w) ∙ (or_shifted (2 ^ (128 - w) - 1) w n below ∙ omega (arith, less)))

pub negative_bits : (f : Form) (p n x : ℕ) → shows_sign f p ≡ true → n < 2 ^ f.width → p ≡ n % 2 ^ 128 → x ≡ 2 ^ 128 - 2 ^ f.width → bit_or p x ≡ residue 128 (value f n)
negative_bits f p n x e below is above =
    let s = sign_of f p e in
    let same = same_number f.width n p s.narrow below is in
    let high : 2 ^ (f.width - 1) ≤ n = omega (arith, s.high, same) in
    let more : 2 ^ f.width ≤ 2 ^ 128 = pow-le-pow_right (lit< tt) s.narrow in
    let whole = n + (2 ^ 128 - 2 ^ f.width) in
    let small : whole < 2 ^ 128 = omega (arith, below, more) in
    ap (λ k. bit_or k x) same ∙ (joined f.width n x s.narrow below above
    ∙ sym (ap (residue 128) (value_high f n s.signed high) ∙ (residue_is 128 (pos n -ℤ pos (2 ^ f.width)) 1 whole (omega (arith, ints, more)) ∙ mod-eq_of_lt small)))

pub positive_whole : (p : Point) → shows_sign p.form p.number ≡ false → IsPoint p → pos p.number ≡ value_at p
positive_whole p e h = sym (positive_value p.form p.number e h.form.greatest)

pub negative_whole : (p : Point) (x : ℕ) → shows_sign p.form p.number ≡ true → x ≡ 2 ^ 128 - 2 ^ p.form.width → IsPoint p → pos (bit_or p.number x) -ℤ pos (2 ^ 128) ≡ value_at p
negative_whole p x e above h =
    let s = sign_of p.form p.number e in
    let more : 2 ^ p.form.width ≤ 2 ^ 128 = pow-le-pow_right (lit< tt) s.narrow in
    let bits = joined p.form.width p.number x s.narrow h.below above in
    ap (λ k. pos k -ℤ pos (2 ^ 128)) bits ∙ (omega (arith, ints, more) ∙ sym (value_high p.form p.number s.signed s.high))
