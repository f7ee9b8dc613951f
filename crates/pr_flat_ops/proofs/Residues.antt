-- Values modulo powers of two, and the numbers that they leave.
use Rattle.std.proofs.Common.{◌≡◌, ℕ, suc, ◌+◌, ◌-◌, ◌*◌, ◌/◌, ◌%◌, ◌^◌, ◌<◌, ◌≤◌, min, ℤ, pos, negsuc, ◌+ℤ◌, ◌-ℤ◌, ◌*ℤ◌, unsigned_abs, refl, sym, ap, ◌∙◌, arith}
use Rattle.std.proofs.Math.Pow.{mod-mod-pow}
use Rattle.std.proofs.Math.Nat.{mul-le-mul_left, mod-lt, mul_assoc, mod-eq_of_lt, min-le_left, min-le_right}
use Rattle.std.proofs.lemmas.Nat.{pow_pos, pow-add, div-add-mod'}
use Rattle.std.proofs.lemmas.Int.{int_rem_euclid_is}
use borrow.Author.Differences.{ints, up, down, same_in, same_out, sum_is_lem, neg_is, product_is}
use lib.IntN.{*ℤ_comm}
use Rattle.pr_flat.specs.Forms.{residue}

-- a number's low bits
pub narrower : (n v w : ℕ) → v ≤ w → n % 2 ^ w % 2 ^ v ≡ n % 2 ^ v
narrower n v w h = let e : w - v + v ≡ w = omega arith in ap (λ k. n % 2 ^ k % 2 ^ v) (sym e) ∙ mod-mod-pow n (w - v) v

pub residue-pos : (w n : ℕ) → residue w (pos n) ≡ n % 2 ^ w
unfolding residue
residue-pos w n = refl

pub residue-negsuc : (w n : ℕ) → residue w (negsuc n) ≡ 2 ^ w - 1 - n % 2 ^ w
unfolding residue
residue-negsuc w n = refl

-- z plus a multiple of 2 ^ w is the number m
pub residue_is : (w : ℕ) (z : ℤ) (k m : ℕ) → z +ℤ pos (k * 2 ^ w) ≡ pos m → residue w z ≡ m % 2 ^ w
unfolding residue
residue_is w z k m e = ap unsigned_abs (int_rem_euclid_is z (pos (2 ^ w)) (2 ^ w) k m (pow_pos w) refl e)

-- each value has such a multiple and number
shown : (w : ℕ) (z : ℤ) → (k : ℕ) × (m : ℕ) × (z +ℤ pos (k * 2 ^ w) ≡ pos m)
shown w (pos a) = (0, a, omega (arith, ints))
shown w (negsuc a) = let far : suc a * 1 ≤ suc a * 2 ^ w = mul-le-mul_left (suc a) (pow_pos w) in (suc a, suc a * 2 ^ w - suc a, omega (arith, ints))

pub residue_below : (w : ℕ) (z : ℤ) → residue w z < 2 ^ w
residue_below w z = let s = shown w z in let e = residue_is w z s.0 s.1 s.2 in let small : s.1 % 2 ^ w < 2 ^ w = mod-lt s.1 (pow_pos w) in omega (arith, e, small)

-- a and b differ by a multiple of 2 ^ w
pub residue_same : (w : ℕ) (a b : ℤ) (j k : ℕ) → a +ℤ pos (j * 2 ^ w) ≡ b +ℤ pos (k * 2 ^ w) → residue w a ≡ residue w b
residue_same w a b j k e =
    let m = 2 ^ w in
    let some = pow_pos w in
    let t = down a + down b in
    let far : t * 1 ≤ t * m = mul-le-mul_left t some in
    let n = up a + (j + t) * m - down a in
    residue_is w a (j + t) n (omega (arith, ints)) ∙ sym (residue_is w b (k + t) n (omega (arith, ints)))

times : (w : ℕ) (a b c : ℤ) (j k : ℕ) → a +ℤ pos (j * 2 ^ w) ≡ b +ℤ pos (k * 2 ^ w) → residue w (a *ℤ c) ≡ residue w (b *ℤ c)
times w a b c j k e =
    let sum : up a + j * 2 ^ w + down b ≡ up b + k * 2 ^ w + down a = omega (arith, same_out, sum_is_lem) in
    let above = ap (λ x. x * up c) sum in
    let below = ap (λ x. x * down c) sum in
    residue_same w (a *ℤ c) (b *ℤ c) (j * up c + k * down c) (k * up c + j * down c) (omega (arith, same_in, sum_is_lem, product_is))

-- a value and what is left of it differ by a multiple of 2 ^ w
drawn : (w : ℕ) (z : ℤ) → (j : ℕ) × (k : ℕ) × (z +ℤ pos (j * 2 ^ w) ≡ pos (residue w z + k * 2 ^ w))
drawn w z =
    let s = shown w z in
    let e : s.1 ≡ residue w z + s.1 / 2 ^ w * 2 ^ w = omega (arith, residue_is w z s.0 s.1 s.2, div-add-mod' s.1 (2 ^ w)) in
    (s.0, s.1 / 2 ^ w, s.2 ∙ ap pos e)

pub residue-add : (w : ℕ) (a b : ℤ) → residue w (a +ℤ b) ≡ (residue w a + residue w b) % 2 ^ w
residue-add w a b =
    let p = drawn w a in
    let q = drawn w b in
    residue_same w (a +ℤ b) (pos (residue w a + residue w b)) (p.0 + q.0) (p.1 + q.1) (omega (arith, same_in, same_out, sum_is_lem, p.2, q.2)) ∙ residue-pos w (residue w a + residue w b)

pub residue-sub : (w : ℕ) (a b : ℤ) → residue w (a -ℤ b) ≡ (residue w a + (2 ^ w - residue w b)) % 2 ^ w
residue-sub w a b =
    let p = drawn w a in
    let q = drawn w b in
    let below = residue_below w b in
    residue_same w (a -ℤ b) (pos (residue w a + (2 ^ w - residue w b))) (p.0 + (q.1 + 1)) (p.1 + q.0) (omega (arith, same_in, same_out, sum_is_lem, neg_is, p.2, q.2)) ∙ residue-pos w (residue w a + (2 ^ w - residue w b))

pub residue-mul : (w : ℕ) (a b : ℤ) → residue w (a *ℤ b) ≡ (residue w a * residue w b) % 2 ^ w
residue-mul w a b =
    let p = drawn w a in
    let q = drawn w b in
    let m = residue w a in
    let n = residue w b in
    times w a (pos m) b p.0 p.1 (p.2 ∙ omega (arith, same_in, sum_is_lem)) ∙ ap (residue w) (*ℤ_comm (pos m) b)
    ∙ times w b (pos n) (pos m) q.0 q.1 (q.2 ∙ omega (arith, same_in, sum_is_lem)) ∙ ap (residue w) (*ℤ_comm (pos n) (pos m)) ∙ residue-pos w (m * n)

-- the complement
pub residue-not : (w : ℕ) (a : ℤ) → residue w (negsuc 0 -ℤ a) ≡ 2 ^ w - 1 - residue w a
residue-not w a =
    let p = drawn w a in
    let below = residue_below w a in
    residue_same w (negsuc 0 -ℤ a) (pos (2 ^ w - 1 - residue w a)) (p.1 + 1) p.0 (omega (arith, ints, p.2)) ∙ residue-pos w (2 ^ w - 1 - residue w a)
    ∙ (let small : 2 ^ w - 1 - residue w a < 2 ^ w = omega (arith, below) in mod-eq_of_lt small)

-- fewer bits of a value
pub residue_narrower : (w v : ℕ) (z : ℤ) → v ≤ w → residue w z % 2 ^ v ≡ residue v z
residue_narrower w v z h =
    let s = shown w z in
    let e : w - v + v ≡ w = omega arith in
    let product : s.0 * 2 ^ (w - v) * 2 ^ v ≡ s.0 * 2 ^ w = mul_assoc s.0 (2 ^ (w - v)) (2 ^ v) ∙ ap (λ x. s.0 * x) (sym (pow-add 2 (w - v) v)) ∙ ap (λ k. s.0 * 2 ^ k) e in
    ap (λ x. x % 2 ^ v) (residue_is w z s.0 s.1 s.2) ∙ (narrower s.1 v w h ∙ sym (residue_is v z (s.0 * 2 ^ (w - v)) s.1 (ap (λ k. z +ℤ pos k) product ∙ s.2)))

-- the bits that both widths show
pub residue_both : (w v : ℕ) (z : ℤ) → residue w z % 2 ^ min w v ≡ residue v z % 2 ^ min w v
residue_both w v z = residue_narrower w (min w v) z (min-le_left w v) ∙ sym (residue_narrower v (min w v) z (min-le_right w v))
