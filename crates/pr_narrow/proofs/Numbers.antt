-- Numbers moved up and down, and their low bits.
use Rattle.std.proofs.Common.{◌≡◌, ℕ, ◌+◌, ◌-◌, ◌*◌, ◌/◌, ◌%◌, ◌^◌, ◌<◌, ◌≤◌, inl, inr, ℤ, pos, negsuc, sym, ap, ap₂, ◌∙◌, arith}
use Rattle.std.specs.Int.{int_div_euclid}
use Rattle.std.proofs.lemmas.Bool.{cases_lt}
use Rattle.std.proofs.lemmas.Nat.{pow_pos, pow-add, mod-pow-add, div-mul-add}
use Rattle.std.proofs.Math.Nat.{mod-lt, mul-mod_left, mul-div_cancel, mul_assoc}
use Rattle.pr_flat.specs.Forms.{residue}
use Rattle.pr_flat_ops.proofs.Residues.{narrower, residue-negsuc}
use Rattle.pr_flat.proofs.FormLemmas.{residue-pos}

pub mod_less : (n v w : ℕ) → v ≤ w → n % 2 ^ w % 2 ^ v ≡ n % 2 ^ v
mod_less n v w less = narrower n v w less

-- a number moved up so far that none of its bits is left
moved_out : (x k d : ℕ) → d ≤ k → x * 2 ^ k % 2 ^ d ≡ 0
moved_out x k d far =
    let whole : k - d + d ≡ k = omega arith in
    let product : x * 2 ^ k ≡ x * 2 ^ (k - d) * 2 ^ d = ap (λ j. x * 2 ^ j) (sym whole) ∙ ap (λ p. x * p) (pow-add 2 (k - d) d) ∙ sym (mul_assoc x (2 ^ (k - d)) (2 ^ d)) in
    ap (λ p. p % 2 ^ d) product ∙ mul-mod_left (x * 2 ^ (k - d)) (2 ^ d)

moved_in : (x k d : ℕ) → k ≤ d → x * 2 ^ k % 2 ^ d ≡ x % 2 ^ (d - k) * 2 ^ k
moved_in x k d near =
    let whole : d - k + k ≡ d = omega arith in
    let parts = mod-pow-add (x * 2 ^ k) (d - k) k in
    let high : x * 2 ^ k / 2 ^ k ≡ x = mul-div_cancel x (pow_pos k) in
    let low : x * 2 ^ k % 2 ^ k ≡ 0 = mul-mod_left x (2 ^ k) in
    ap (λ j. x * 2 ^ k % 2 ^ j) (sym whole) ∙ parts ∙ ap₂ (λ m n. m % 2 ^ (d - k) * 2 ^ k + n) high low ∙ last (x % 2 ^ (d - k) * 2 ^ k) where
      last : (n : ℕ) → n + 0 ≡ n
      last n = omega arith

-- moved up, only the low bits count
pub moved_low : (x y k d : ℕ) → x % 2 ^ (d - k) ≡ y % 2 ^ (d - k) → x * 2 ^ k % 2 ^ d ≡ y * 2 ^ k % 2 ^ d
moved_low x y k d same = elim (cases_lt k d) [
  | inl near ↦ (let less : k ≤ d = omega arith in moved_in x k d less ∙ ap (λ n. n * 2 ^ k) same ∙ sym (moved_in y k d less))
  | inr far ↦ moved_out x k d far ∙ sym (moved_out y k d far)
]

-- the bits of a number from place k on
pub field : (n j k : ℕ) → n / 2 ^ k % 2 ^ j ≡ n % 2 ^ (j + k) / 2 ^ k
field n j k = sym (ap (λ m. m / 2 ^ k) (mod-pow-add n j k) ∙ div-mul-add (n / 2 ^ k % 2 ^ j) (2 ^ k) (n % 2 ^ k) (mod-lt n (pow_pos k)))

-- a value moved down shows the bits from that place on
pub residue_moved : (d k : ℕ) (z : ℤ) → residue d (int_div_euclid z (pos (2 ^ k))) ≡ residue (d + k) z / 2 ^ k
residue_moved d k (pos n) = residue-pos d (n / 2 ^ k) ∙ field n d k ∙ ap (λ m. m / 2 ^ k) (sym (residue-pos (d + k) n))
residue_moved d k (negsuc n) =
    let q = n / 2 ^ k % 2 ^ d in
    let r = n % 2 ^ k in
    let below : r < 2 ^ k = mod-lt n (pow_pos k) in
    let small : q < 2 ^ d = mod-lt (n / 2 ^ k) (pow_pos d) in
    let split : 2 ^ (d + k) - 1 - (q * 2 ^ k + r) ≡ (2 ^ d - 1 - q) * 2 ^ k + (2 ^ k - 1 - r) = ap (λ p. p - 1 - (q * 2 ^ k + r)) (pow-add 2 d k) ∙ turned (2 ^ d) (2 ^ k) q r small below in
    residue-negsuc d (n / 2 ^ k) ∙ sym (ap (λ m. m / 2 ^ k) (residue-negsuc (d + k) n ∙ ap (λ m. 2 ^ (d + k) - 1 - m) (mod-pow-add n d k) ∙ split) ∙ div-mul-add (2 ^ d - 1 - q) (2 ^ k) (2 ^ k - 1 - r) (omega arith)) where
      turned : (m p q r : ℕ) → q < m → r < p → m * p - 1 - (q * p + r) ≡ (m - 1 - q) * p + (p - 1 - r)
      turned m p q r less rest =
          let e : m - 1 - q + 1 + q ≡ m = omega arith in
          let product : (m - 1 - q + 1 + q) * p ≡ m * p = ap (λ n. n * p) e in
          spread (m - 1 - q) p q r (m * p) product rest where
            spread : (s p q r whole : ℕ) → (s + 1 + q) * p ≡ whole → r < p → whole - 1 - (q * p + r) ≡ s * p + (p - 1 - r)
            spread s p q r whole is rest = omega arith
