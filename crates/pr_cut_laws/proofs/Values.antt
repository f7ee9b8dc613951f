-- The residues of signed values.
use Rattle.std.proofs.Common.{ℕ, ◌≡◌, ◌+◌, ◌*◌, ◌/◌, ◌%◌, ◌^◌, ◌-◌, ◌<◌, ◌≤◌, true, false, pos, ◌-ℤ◌, inl, inr, refl, ap, sym, ◌∙◌, arith}
use Rattle.std.proofs.Math.Nat.{div-eq_of_lt, pow-le-pow_right}
use Rattle.std.proofs.lemmas.Bool.{cases_lt, le-leb, lt-leb}
use Rattle.std.proofs.lemmas.Nat.{pow_pos, pow-add, div_below, le-div}
use borrow.Author.Differences.{ints}
use Rattle.pr_flat.specs.declared.forms.Form.{Form}
use Rattle.pr_flat.specs.Forms.{value, residue}
use Rattle.pr_flat_ops.proofs.Residues.{residue-pos, residue_is}

abbrev pub signed_form : ℕ → Form
signed_form v = record { signed = true; width = v }

abbrev pub unsigned_form : ℕ → Form
unsigned_form v = record { signed = false; width = v }

pub value_low : (v n : ℕ) → n < 2 ^ (v - 1) → value (signed_form v) n ≡ pos n
unfolding value
value_low v n h = rw (lt-leb (2 ^ (v - 1)) n h) refl

pub value_high : (v n : ℕ) → 2 ^ (v - 1) ≤ n → value (signed_form v) n ≡ pos n -ℤ pos (2 ^ v)
unfolding value
value_high v n h = rw (le-leb (2 ^ (v - 1)) n h) refl

pub halves : (v : ℕ) → 1 ≤ v → 2 ^ v ≡ 2 * 2 ^ (v - 1)
halves v h =
    let e : 1 + (v - 1) ≡ v = omega arith in
    ap (λ (k : ℕ). 2 ^ k) (sym e) ∙ pow-add 2 1 (v - 1)

-- the top bit of a number below 2 ^ v
pub top_low : (v n : ℕ) → n < 2 ^ (v - 1) → n / 2 ^ (v - 1) % 2 ≡ 0
top_low v n h = ap (λ (k : ℕ). k % 2) (div-eq_of_lt h)

pub top_high : (v n : ℕ) → 1 ≤ v → n < 2 ^ v → 2 ^ (v - 1) ≤ n → n / 2 ^ (v - 1) % 2 ≡ 1
top_high v n hv l h =
    let p : ℕ = 2 ^ (v - 1) in
    let d : 2 ^ v ≡ 2 * p = halves v hv in
    let a : n / p < 2 = div_below n p 2 (pow_pos (v - 1)) (omega arith) in
    let b : 1 ≤ n / p = le-div 1 n p (pow_pos (v - 1)) (omega arith) in
    omega (arith, a, b)

-- ones above the number's own bits where its top bit is set
pub signed_residue : (v t k n : ℕ) → 1 ≤ v → v ≤ k → t ≤ k → n < 2 ^ v → (n + (n / 2 ^ (v - 1) % 2) * (2 ^ k - 2 ^ v)) % 2 ^ t ≡ residue t (value (signed_form v) n)
signed_residue v t k n hv vk tk l = elim (cases_lt n (2 ^ (v - 1))) [
  | inl low ↦ (
      let b : n / 2 ^ (v - 1) % 2 ≡ 0 = top_low v n low in
      let e : n + (n / 2 ^ (v - 1) % 2) * (2 ^ k - 2 ^ v) ≡ n = rw b (omega arith) in
      ap (λ (m : ℕ). m % 2 ^ t) e ∙ sym (ap (residue t) (value_low v n low) ∙ residue-pos t n))
  | inr high ↦ (
      let b : n / 2 ^ (v - 1) % 2 ≡ 1 = top_high v n hv l high in
      let e : n + (n / 2 ^ (v - 1) % 2) * (2 ^ k - 2 ^ v) ≡ n + (2 ^ k - 2 ^ v) = rw b (omega arith) in
      let f : (k - t) + t ≡ k = omega arith in
      let p : 2 ^ (k - t) * 2 ^ t ≡ 2 ^ k = sym (pow-add 2 (k - t) t) ∙ ap (λ (i : ℕ). 2 ^ i) f in
      let two : 0 < 2 = omega arith in
      let more : 2 ^ v ≤ 2 ^ k = pow-le-pow_right two vk in
      ap (λ (m : ℕ). m % 2 ^ t) e ∙ sym (ap (residue t) (value_high v n high) ∙ residue_is t (pos n -ℤ pos (2 ^ v)) (2 ^ (k - t)) (n + (2 ^ k - 2 ^ v)) (rw p (omega (arith, ints, more)))))
]
