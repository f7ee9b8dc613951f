-- Numbers by their bytes.
use Rattle.std.proofs.Common.{ℕ, zero, suc, ◌≡◌, ◌+◌, ◌*◌, ◌/◌, ◌%◌, ◌^◌, ◌-◌, ◌<◌, ◌≤◌, ◌==◌, true, false, List, [], ◌∷◌, ◌++◌, length, get_or, bit_and, refl, ap, ap₂, sym, ◌∙◌, pow-add, inl, inr, ◌⊎◌, arith}
use Rattle.std.specs.Bool.{if◌then◌else◌}
use Rattle.std.specs.Int.{bit_at}
use Rattle.std.proofs.Math.Nat.{mod-add-div, div-div-eq-div-mul, div-eq_of_lt, mod-eq_of_lt, mod-lt, pow-le-pow_right}
use Rattle.std.proofs.Math.Pow.{mod-mod-pow}
use Rattle.std.proofs.lemmas.Bool.Decides.{nat_tests}
use Rattle.std.proofs.lemmas.Nat.{field_of, shr-shr, pow_pos, and_mask}
use Rattle.pr_base.specs.Numbers.{byte_at, number_of, slices_of, top_mask_of}
use Rattle.pr_cut_units.specs.Cells.{top}
use Rattle.pr_cut_units.proofs.Sums.{mod_scaled}

pub bytes_pow : (n : ℕ) → 256 ^ n ≡ 2 ^ (8 * n)
bytes_pow zero = refl
bytes_pow (suc n) =
    let e : 256 ^ suc n ≡ 256 * 2 ^ (8 * n) = omega (arith, bytes_pow n) in
    e ∙ sym (pow-add 2 8 (8 * n)) ∙ ap (λ (k : ℕ). 2 ^ k) (omega arith)

pub big_pos : (n : ℕ) → 0 < 256 ^ n
big_pos n = rw (bytes_pow n) (pow_pos (8 * n))

pub more_bytes : (n : ℕ) → 256 ^ suc n ≡ 256 * 256 ^ n
more_bytes n = omega arith

pub byte_small : (x i : ℕ) → byte_at x i < 256
byte_small x i = omega arith

-- the byte above is the byte of a 256th
pub byte_more : (x i : ℕ) → byte_at x (suc i) ≡ byte_at (x / 256) i
byte_more x i = ap (λ (k : ℕ). x / k % 256) (more_bytes i) ∙ ap (λ (k : ℕ). k % 256) (sym (div-div-eq-div-mul x 256 (256 ^ i)))

pub byte_none : (i : ℕ) → byte_at 0 i ≡ 0
byte_none i = ap (λ (k : ℕ). k % 256) (div-eq_of_lt (big_pos i))

pub byte_first : (x : ℕ) → byte_at x 0 ≡ x % 256
byte_first x =
    let one : x / 256 ^ 0 ≡ x = omega arith in
    ap (λ (k : ℕ). k % 256) one

pub byte_whole : (x q i : ℕ) → byte_at x (i + q) ≡ byte_at (x / 256 ^ q) i
byte_whole x q i =
    let p : 256 ^ (i + q) ≡ 256 ^ q * 256 ^ i = pow-add 256 i q ∙ omega arith in
    ap (λ (k : ℕ). x / k % 256) p ∙ ap (λ (k : ℕ). k % 256) (sym (div-div-eq-div-mul x (256 ^ q) (256 ^ i)))

pub next_byte : (v a : ℕ) → v / 256 ^ (a + 1) ≡ v / 256 ^ a / 256
next_byte v a =
    let p : 256 ^ (a + 1) ≡ 256 ^ a * 256 = pow-add 256 a 1 ∙ omega arith in
    ap (λ (k : ℕ). v / k) p ∙ sym (div-div-eq-div-mul v (256 ^ a) 256)

abbrev pub AllSmall : List ℕ → Type 0
AllSmall [] = Unit {0}
AllSmall (x ∷ xs) = (x < 256) × AllSmall xs

-- the bytes of a list are those of its number
pub byte_of_number : (xs : List ℕ) (i : ℕ) → AllSmall xs → get_or xs i 0 ≡ byte_at (number_of xs) i
byte_of_number [] i h = sym (byte_none i)
byte_of_number (x ∷ xs) zero h =
    let hx : x < 256 = h.0 in
    let e : (x + 256 * number_of xs) % 256 ≡ x = omega arith in
    sym (byte_first (x + 256 * number_of xs) ∙ e)
byte_of_number (x ∷ xs) (suc i) h =
    let hx : x < 256 = h.0 in
    let e : (x + 256 * number_of xs) / 256 ≡ number_of xs = omega arith in
    byte_of_number xs i h.1 ∙ ap (λ (k : ℕ). byte_at k i) (sym e) ∙ sym (byte_more (x + 256 * number_of xs) i)

-- a list of bytes of a number is the number, cut
pub number_of_bytes : (xs : List ℕ) (v : ℕ) → ((i : ℕ) → i < length xs → get_or xs i 0 ≡ byte_at v i) → number_of xs ≡ v % 256 ^ length xs
number_of_bytes [] v h = omega arith
number_of_bytes (x ∷ xs) v h =
    let e : x ≡ v % 256 = h 0 (omega arith) ∙ byte_first v in
    let ih : number_of xs ≡ v / 256 % 256 ^ length xs = number_of_bytes xs (v / 256) (λ i l. h (suc i) (omega arith) ∙ byte_more v i) in
    ap₂ (λ (a b : ℕ). a + 256 * b) e ih ∙ sym (mod_scaled (v % 256) 256 (v / 256) (256 ^ length xs) (omega arith) (big_pos (length xs)))
    ∙ ap₂ (λ (a b : ℕ). a % b) (mod-add-div v 256) (sym (more_bytes (length xs)))

pub number-append : (xs ys : List ℕ) → number_of (xs ++ ys) ≡ number_of xs + 256 ^ length xs * number_of ys
number-append [] ys = omega arith
number-append (x ∷ xs) ys =
    let e : 256 ^ suc (length xs) * number_of ys ≡ 256 * (256 ^ length xs * number_of ys) = ap (λ (k : ℕ). k * number_of ys) (more_bytes (length xs)) ∙ omega arith in
    ap (λ (k : ℕ). x + 256 * k) (number-append xs ys) ∙ omega (arith, e)

-- bit k of byte i
pub bit_of_byte : (x i k : ℕ) → k < 8 → bit_at (byte_at x i) k ≡ bit_at x (8 * i + k)
bit_of_byte x i k h =
    let n : ℕ = x / 256 ^ i in
    let e : (8 - k) + k ≡ 8 = omega arith in
    let a : n % 2 ^ 8 / 2 ^ k ≡ n / 2 ^ k % 2 ^ (8 - k) = ap (λ (j : ℕ). n % 2 ^ j / 2 ^ k) (sym e) ∙ field_of n (8 - k) k in
    let f : (7 - k) + 1 ≡ 8 - k = omega arith in
    let b : n / 2 ^ k % 2 ^ (8 - k) % 2 ^ 1 ≡ n / 2 ^ k % 2 ^ 1 = ap (λ (j : ℕ). n / 2 ^ k % 2 ^ j % 2 ^ 1) (sym f) ∙ mod-mod-pow (n / 2 ^ k) (7 - k) 1 in
    let c : n / 2 ^ k ≡ x / 2 ^ (8 * i + k) = ap (λ (j : ℕ). x / j / 2 ^ k) (bytes_pow i) ∙ shr-shr x (8 * i) k in
    ap (λ (j : ℕ). j % 2) a ∙ b ∙ ap (λ (j : ℕ). j % 2) c

pub narrow : (n e v : ℕ) → e ≤ v → n % 2 ^ v % 2 ^ e ≡ n % 2 ^ e
narrow n e v h =
    let q : (v - e) + e ≡ v = omega arith in
    ap (λ (k : ℕ). n % 2 ^ k % 2 ^ e) (sym q) ∙ mod-mod-pow n (v - e) e

-- ---- the mask of the top byte
-- how many bits the top byte of e bits has
abbrev pub top_bits : ℕ → ℕ
top_bits e = if e % 8 == 0 then 8 else e % 8

pub top_last : (e i : ℕ) → i + 1 ≡ slices_of e → top e i ≡ 2 ^ top_bits e - 1
top_last e i h = first ∙ is
  where
    first : top e i ≡ top_mask_of e
    first = grind (arith, nat_tests)

    is : top_mask_of e ≡ 2 ^ top_bits e - 1
    is = elim (e % 8 == 0) as (λ t. (if t then 255 else 2 ^ (e % 8) - 1) ≡ 2 ^ (if t then 8 else e % 8) - 1) [ true ↦ refl | false ↦ refl ]

pub top_other : (e i : ℕ) → i + 1 < slices_of e → top e i ≡ 255
top_other e i h = grind (arith, nat_tests)

pub top_few : (e : ℕ) → top_bits e ≤ 8
top_few e = elim (e % 8 == 0) as (λ t. (if t then 8 else e % 8) ≤ 8) [ true ↦ omega arith | false ↦ omega arith ]

pub bits_are : (e n : ℕ) → 1 ≤ e → suc n ≡ slices_of e → 8 * n + top_bits e ≡ e
bits_are e n h l = grind (arith, nat_tests)

-- the masks of the upper bytes are those of so many bits fewer
pub top_upper : (e q i : ℕ) → 8 * q < e → top e (q + i) ≡ top (e - 8 * q) i
top_upper e q i h = grind (arith, nat_tests)

-- a masked byte is that of the number, cut
pub masked : (v e i : ℕ) → 1 ≤ e → i < slices_of e → bit_and (byte_at v i) (top e i) ≡ byte_at (v % 2 ^ e) i
masked v e i some l = elim (cases_last) [
  | inl h ↦ (
      let j : ℕ = top_bits e in
      let s : 8 * i + j ≡ e = bits_are e i some (omega (arith, h)) in
      let f : j + 8 * i ≡ e = omega (arith, s) in
      let p : v % 2 ^ e / 256 ^ i ≡ v / 256 ^ i % 2 ^ j = ap₂ (λ (a b : ℕ). v % 2 ^ a / b) (sym f) (bytes_pow i) ∙ field_of v j (8 * i) ∙ ap (λ (b : ℕ). v / b % 2 ^ j) (sym (bytes_pow i)) in
      let small : v / 256 ^ i % 2 ^ j < 256 = below (v / 256 ^ i) j (top_few e) in
      ap (bit_and (byte_at v i)) (top_last e i h) ∙ and_mask (byte_at v i) j ∙ narrow (v / 256 ^ i) j 8 (top_few e) ∙ sym (ap (λ (k : ℕ). k % 256) p ∙ mod-eq_of_lt small))
  | inr h ↦ (
      let g : (e - 8 * i) + 8 * i ≡ e = omega arith in
      let p : v % 2 ^ e / 256 ^ i ≡ v / 256 ^ i % 2 ^ (e - 8 * i) = ap₂ (λ (a b : ℕ). v % 2 ^ a / b) (sym g) (bytes_pow i) ∙ field_of v (e - 8 * i) (8 * i) ∙ ap (λ (b : ℕ). v / b % 2 ^ (e - 8 * i)) (sym (bytes_pow i)) in
      ap (bit_and (byte_at v i)) (top_other e i h) ∙ and_mask (byte_at v i) 8 ∙ narrow (v / 256 ^ i) 8 8 (omega arith) ∙ sym (ap (λ (k : ℕ). k % 256) p ∙ narrow (v / 256 ^ i) 8 (e - 8 * i) (omega arith)))
]
  where
    cases_last : (i + 1 ≡ slices_of e) ⊎ (i + 1 < slices_of e)
    cases_last = grind arith

    below : (x j : ℕ) → j ≤ 8 → x % 2 ^ j < 256
    below x j h =
        let two : 0 < 2 = omega arith in
        let a : x % 2 ^ j < 2 ^ j = mod-lt x (pow_pos j) in
        let b : 2 ^ j ≤ 2 ^ 8 = pow-le-pow_right two h in
        omega (arith, a, b)
