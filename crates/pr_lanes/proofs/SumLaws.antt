-- Numbers of base 256, and their digits.
use Rattle.std.proofs.Common.{◌≡◌, ℕ, zero, suc, ◌+◌, ◌*◌, ◌/◌, ◌%◌, ◌^◌, ◌<◌, List, [], ◌∷◌, length, get_or, refl, sym, ap, ◌∙◌, arith}
use Rattle.std.proofs.Math.Nat.{pow-succ', div-add-mod, mul_assoc, mod-lt, mul-add-mod_self_left, mod-eq_of_lt}
use Rattle.std.specs.Simd.Lanes.{Each1, number_l, digits_l}
use Rattle.pr_lanes.specs.Sums.{carry_from}

pow_more : (k : ℕ) → 256 ^ suc k ≡ 256 * 256 ^ k
pow_more k = pow-succ' 256 k

pub number_bound : (xs : List ℕ) → Each1 (λ x. x < 256) xs → number_l 256 xs < 256 ^ length xs
number_bound [] h = omega arith
number_bound (x ∷ xs) h = let l = number_bound xs h.1 in let s = h.0 in let e = pow_more (length xs) in omega arith

-- the digits of the sum of three numbers and a carry
pub digits_sum : (n c : ℕ) (ps xs cs : List ℕ) (k : ℕ) → length ps ≡ n → length xs ≡ n → length cs ≡ n → k < n
    → get_or (digits_l 256 n (c + number_l 256 ps + number_l 256 xs + number_l 256 cs)) k 0 ≡ (get_or ps k 0 + get_or xs k 0 + get_or cs k 0 + carry_from c (λ j. get_or ps j 0 + get_or xs j 0 + get_or cs j 0) k) % 256
digits_sum zero c ps xs cs k a x z l = absurd (omega arith)
digits_sum (suc n) c [] xs cs k a x z l = absurd (omega arith)
digits_sum (suc n) c (p ∷ ps) [] cs k a x z l = absurd (omega arith)
digits_sum (suc n) c (p ∷ ps) (q ∷ xs) [] k a x z l = absurd (omega arith)
digits_sum (suc n) c (p ∷ ps) (q ∷ xs) (r ∷ cs) zero a x z l = omega arith
digits_sum (suc n) c (p ∷ ps) (q ∷ xs) (r ∷ cs) (suc k) a x z l =
    let e : (c + (p + 256 * number_l 256 ps) + (q + 256 * number_l 256 xs) + (r + 256 * number_l 256 cs)) / 256 ≡ (p + q + r + c) / 256 + number_l 256 ps + number_l 256 xs + number_l 256 cs = omega arith in
    ap (λ m. get_or (digits_l 256 n m) k 0) e ∙ digits_sum n ((p + q + r + c) / 256) ps xs cs k (omega arith) (omega arith) (omega arith) (omega arith)

-- a carry from the column below
pub carry_more : (c : ℕ) (f : ℕ → ℕ) (k : ℕ) → carry_from c f (suc k) ≡ (f k + carry_from c f k) / 256
carry_more c f zero = refl
carry_more c f (suc k) = carry_more ((f 0 + c) / 256) (λ j. f (suc j)) k

-- only the lowest digits count
module _ (n q : ℕ) (some : 0 < q) where
  cut : n ≡ 256 * (q * (n / (256 * q))) + n % (256 * q)
  cut = sym (div-add-mod n (256 * q)) ∙ ap (λ x. x + n % (256 * q)) (mul_assoc 256 q (n / (256 * q)))

  below : n % (256 * q) < 256 * q
  below = mod-lt n (omega arith)

  cut_low : n % (256 * q) % 256 ≡ n % 256
  cut_low = let e = cut in omega arith

  cut_high : n % (256 * q) / 256 ≡ n / 256 % q
  cut_high =
      let e = cut in
      let l = below in
      let a = n % (256 * q) / 256 in
      let h : n / 256 ≡ q * (n / (256 * q)) + a = omega arith in
      let s : a < q = omega arith in
      sym (ap (λ x. x % q) h ∙ mul-add-mod_self_left q (n / (256 * q)) a ∙ mod-eq_of_lt s)

pow_some : (k : ℕ) → 0 < 256 ^ k
pow_some zero = omega arith
pow_some (suc k) = let h = pow_some k in let e = pow_more k in omega arith

pub digits_mod : (k n : ℕ) → digits_l 256 k (n % 256 ^ k) ≡ digits_l 256 k n
digits_mod zero n = refl
digits_mod (suc k) n =
    let h = pow_some k in
    ap (λ q. digits_l 256 (suc k) (n % q)) (pow_more k)
    ∙ ap (λ d. d ∷ digits_l 256 k (n % (256 * 256 ^ k) / 256)) (cut_low n (256 ^ k) h)
    ∙ ap (λ m. n % 256 ∷ digits_l 256 k m) (cut_high n (256 ^ k) h)
    ∙ ap (λ ds. n % 256 ∷ ds) (digits_mod k (n / 256))

pub carry_same : (c : ℕ) (f g : ℕ → ℕ) (k : ℕ) → ((j : ℕ) → j < k → f j ≡ g j) → carry_from c f k ≡ carry_from c g k
carry_same c f g zero same = refl
carry_same c f g (suc k) same =
    ap (λ x. carry_from ((x + c) / 256) (λ j. f (suc j)) k) (same 0 (omega arith))
    ∙ carry_same ((g 0 + c) / 256) (λ j. f (suc j)) (λ j. g (suc j)) k (λ j l. same (suc j) (omega arith))
