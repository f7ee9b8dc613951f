-- The least numbers that pass a test, and the width of a number.
use Rattle.std.proofs.Common.{◌≡◌, ℕ, zero, suc, ◌+◌, ◌-◌, ◌*◌, ◌%◌, ◌^◌, ◌<◌, ◌≤◌, Bool, true, false, cond, ◌&&◌, Some, unwrap_or, ap, refl, sym, ◌∙◌, arith, nat_le, ℤ, pos, negsuc, ◌+ℤ◌, ◌-ℤ◌, unsigned_abs, inl, inr, nat_lt}
use Rattle.std.proofs.lemmas.Bool.{cases_lt}
use Rattle.std.proofs.lemmas.Bool.Decides.{nat_tests}
use Rattle.pr_base.specs.Numbers.{IsLeastWidth}
use Rattle.pr_flat.specs.declared.forms.Form.{Form}
use Rattle.pr_flat.specs.Forms.{value, residue, least_from, number_width}
use Rattle.std.proofs.lemmas.Int.{int_rem_euclid_is, ints}
use Rattle.std.proofs.lemmas.Nat.{pow_pos, pow-add}
use Rattle.std.proofs.Math.Nat.{mod-lt}

-- a number that passes, where none before it does
pub least_from_is : (k at : ℕ) (test : ℕ → Bool) (w : ℕ) → at ≤ w → w < at + k → test w ≡ true → ((v : ℕ) → at ≤ v → v < w → test v ≡ false) → least_from k at test ≡ Some w
least_from_is zero at test w low high passes others = absurd (omega arith)
least_from_is (suc k) at test w low high passes others =
    elim (cases_lt at w) [
      | inl less ↦ rw (others at (omega arith) less) (least_from_is k (at + 1) test w (omega arith) (omega arith) passes (λ v l h. others v (omega arith) h))
      | inr more ↦ (let same : at ≡ w = omega arith in rw same (rw passes refl))
    ]

-- the width of a number below 2 to the power of 64 is its least width
pub number_width-least : (n w : ℕ) → n < 2 ^ 64 → IsLeastWidth n w → number_width n ≡ w
unfolding number_width
number_width-least n w small least =
    let below : w ≤ 64 = least.least 64 (omega arith) small in
    let low : 1 ≤ w = least.positive in
    ap (λ o. unwrap_or o 64) (least_from_is 64 1 (λ v. nat_lt n (2 ^ v)) w low (omega arith) (grind (arith, nat_tests, least.holds)) (λ v l h. grind (arith, nat_tests, least.least v l)))

-- a value and so many times 2 to the power of w are the number m
pub residue-by : (w k m : ℕ) (z : ℤ) → z +ℤ pos (k * 2 ^ w) ≡ pos m → residue w z ≡ m % 2 ^ w
unfolding residue
residue-by w k m z is = ap unsigned_abs (int_rem_euclid_is z (pos (2 ^ w)) (2 ^ w) k m (pow_pos w) refl is)

pub residue-pos : (w n : ℕ) → residue w (pos n) ≡ n % 2 ^ w
unfolding residue
residue-pos w n = refl

-- a residue has w bits
pub residue-lt : (w : ℕ) (z : ℤ) → residue w z < 2 ^ w
unfolding residue
residue-lt w (pos n) = mod-lt n (pow_pos w)
residue-lt w (negsuc n) = let positive = pow_pos w in omega arith

less_and : (n p : ℕ) → (pos n -ℤ pos p) +ℤ pos p ≡ pos n
less_and n p = omega (arith, ints)

power_of_parts : (w v : ℕ) → v ≤ w → 2 ^ (w - v) * 2 ^ v ≡ 2 ^ w
power_of_parts w v low = let whole : w - v + v ≡ w = omega arith in sym (pow-add 2 (w - v) v) ∙ ap (λ k. 2 ^ k) whole

-- modulo a power that is not above its width's a value is its number
pub residue-value : (f : Form) (v n : ℕ) → v ≤ f.width → residue v (value f n) ≡ n % 2 ^ v
unfolding value
residue-value f v n low = by_sign (f.signed && nat_le (2 ^ (f.width - 1)) n) where
  by_sign : (b : Bool) → residue v (cond b (pos n -ℤ pos (2 ^ f.width)) (pos n)) ≡ n % 2 ^ v
  by_sign true = residue-by v (2 ^ (f.width - v)) n (pos n -ℤ pos (2 ^ f.width)) (rw (power_of_parts f.width v low) (less_and n (2 ^ f.width)))
  by_sign false = residue-pos v n
