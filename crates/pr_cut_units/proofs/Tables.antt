-- What the tables answer on whole bytes.
use Rattle.std.proofs.Common.{◌≡◌, ◌<◌, ◌≤◌, ℕ, zero, suc, ◌+◌, ◌-◌, ◌*◌, ◌%◌, ◌^◌, min, max, bit_and, bit_or, bit_xor, refl, sym, ◌∙◌, arith, w8}
use Rattle.std.specs.Int.{bit_at}
use Rattle.std.proofs.Math.Nat.{mod-eq_of_lt}
use Rattle.std.proofs.lemmas.Nat.{mod-pow-add, or_lt, xor_lt}
use Rattle.std.specs.Int.Bits.{and_lt}
use Rattle.std.proofs.lemmas.Nat.Bits.{bit_at_and, bit_at_or, bit_at_xor, bit_at_not, bit_at-lt}
use Rattle.pr_base.specs.Pe.{of_bits, looked_up}
use Rattle.pr_cut_units.proofs.ChainMeaning.{Steady}

of_bits_by : (n : ℕ) (f g : ℕ → ℕ) → ((k : ℕ) → k < n → f k ≡ g k) → of_bits n f ≡ of_bits n g
of_bits_by zero f g h = refl
of_bits_by (suc n) f g h = rw (of_bits_by n f g (λ k lt. h k (omega arith)), h n (omega arith)) refl

of_bits_mod : (n x : ℕ) → of_bits n (bit_at x) ≡ x % 2 ^ n
of_bits_mod zero x = let one : x % 1 ≡ 0 = omega arith in sym one
of_bits_mod (suc n) x = let e : suc n ≡ 1 + n = omega arith in rw (of_bits_mod n x, e, mod-pow-add x 1 n) (omega arith)

-- X is the byte whose bits the table gives
pub x_by : (table a b c x : ℕ) → x < 256 → ((k : ℕ) → k < 8 → bit_at table (bit_at a k + 2 * bit_at b k + 4 * c) ≡ bit_at x k) → looked_up table a b c ≡ x
unfolding looked_up
x_by table a b c x small h = of_bits_by 8 _ _ h ∙ of_bits_mod 8 x ∙ mod-eq_of_lt small

pub four : (P : ℕ → ℕ → Type 0) → P 0 0 → P 0 1 → P 1 0 → P 1 1 → (p q : ℕ) → p < 2 → q < 2 → P p q
four P a b c d zero zero h k = a
four P a b c d zero (suc zero) h k = b
four P a b c d (suc zero) zero h k = c
four P a b c d (suc zero) (suc zero) h k = d
four P a b c d zero (suc (suc q)) h k = absurd (omega arith)
four P a b c d (suc zero) (suc (suc q)) h k = absurd (omega arith)
four P a b c d (suc (suc p)) q h k = absurd (omega arith)

-- a table whose answer for this C is a function of the bits of A and B
pub record Answers (table c : ℕ) (f : ℕ → ℕ → ℕ) : Type 0 where
  pub at : (p q : ℕ) → p < 2 → q < 2 → bit_at table (p + 2 * q + 4 * c) ≡ f p q

pub x_is : (table c : ℕ) (f : ℕ → ℕ → ℕ) (a b x : ℕ) → Answers table c f → x < 256 → ((k : ℕ) → k < 8 → f (bit_at a k) (bit_at b k) ≡ bit_at x k) → looked_up table a b c ≡ x
x_is table c f a b x h small same = x_by table a b c x small (λ k l. h.at (bit_at a k) (bit_at b k) (bit_at-lt a k) (bit_at-lt b k) ∙ same k l)

-- ---- a, b and their inverses, whatever C is
answers_a : (c : ℕ) → c ≤ 1 → Answers 170 c (λ p q. p)
answers_a zero h = record { at = four (λ p q. bit_at 170 (p + 2 * q + 4 * 0) ≡ p) refl refl refl refl }
answers_a (suc zero) h = record { at = four (λ p q. bit_at 170 (p + 2 * q + 4 * 1) ≡ p) refl refl refl refl }
answers_a (suc (suc c)) h = absurd (omega arith)

answers_b : (c : ℕ) → c ≤ 1 → Answers 204 c (λ p q. q)
answers_b zero h = record { at = four (λ p q. bit_at 204 (p + 2 * q + 4 * 0) ≡ q) refl refl refl refl }
answers_b (suc zero) h = record { at = four (λ p q. bit_at 204 (p + 2 * q + 4 * 1) ≡ q) refl refl refl refl }
answers_b (suc (suc c)) h = absurd (omega arith)

answers_not_a : (c : ℕ) → c ≤ 1 → Answers 85 c (λ p q. 1 - p)
answers_not_a zero h = record { at = four (λ p q. bit_at 85 (p + 2 * q + 4 * 0) ≡ 1 - p) refl refl refl refl }
answers_not_a (suc zero) h = record { at = four (λ p q. bit_at 85 (p + 2 * q + 4 * 1) ≡ 1 - p) refl refl refl refl }
answers_not_a (suc (suc c)) h = absurd (omega arith)

answers_not_b : (c : ℕ) → c ≤ 1 → Answers 51 c (λ p q. 1 - q)
answers_not_b zero h = record { at = four (λ p q. bit_at 51 (p + 2 * q + 4 * 0) ≡ 1 - q) refl refl refl refl }
answers_not_b (suc zero) h = record { at = four (λ p q. bit_at 51 (p + 2 * q + 4 * 1) ≡ 1 - q) refl refl refl refl }
answers_not_b (suc (suc c)) h = absurd (omega arith)

pub byte_a : (a b c : ℕ) → a < 256 → c ≤ 1 → looked_up 170 a b c ≡ a
byte_a a b c h l = x_is 170 c (λ p q. p) a b a (answers_a c l) h (λ k s. refl)

pub byte_b : (a b c : ℕ) → b < 256 → c ≤ 1 → looked_up 204 a b c ≡ b
byte_b a b c h l = x_is 204 c (λ p q. q) a b b (answers_b c l) h (λ k s. refl)

pub byte_not_a : (a b c : ℕ) → a < 256 → c ≤ 1 → looked_up 85 a b c ≡ 255 - a
byte_not_a a b c h l = x_is 85 c (λ p q. 1 - p) a b (255 - a) (answers_not_a c l) (omega arith) (λ k s. sym (bit_at_not w8 a k h s))

pub byte_not_b : (a b c : ℕ) → b < 256 → c ≤ 1 → looked_up 51 a b c ≡ 255 - b
byte_not_b a b c h l = x_is 51 c (λ p q. 1 - q) a b (255 - b) (answers_not_b c l) (omega arith) (λ k s. sym (bit_at_not w8 b k h s))

-- ---- C alone
pub byte_c : (a b c : ℕ) → c ≤ 1 → looked_up 240 a b c ≡ 255 * c
byte_c a b zero h = x_is 240 0 (λ p q. 0) a b 0 (record { at = four (λ p q. bit_at 240 (p + 2 * q + 4 * 0) ≡ 0) refl refl refl refl }) (omega arith) (λ k s. omega arith)
byte_c a b (suc zero) h = x_is 240 1 (λ p q. 1) a b 255 (record { at = four (λ p q. bit_at 240 (p + 2 * q + 4 * 1) ≡ 1) refl refl refl refl }) (omega arith) ones
  where
    ones : (k : ℕ) → k < 8 → 1 ≡ bit_at 255 k
    ones zero s = refl
    ones (suc zero) s = refl
    ones (suc (suc zero)) s = refl
    ones (suc (suc (suc zero))) s = refl
    ones (suc (suc (suc (suc zero)))) s = refl
    ones (suc (suc (suc (suc (suc zero))))) s = refl
    ones (suc (suc (suc (suc (suc (suc zero)))))) s = refl
    ones (suc (suc (suc (suc (suc (suc (suc zero))))))) s = refl
    ones (suc (suc (suc (suc (suc (suc (suc (suc k)))))))) s = absurd (omega arith)
byte_c a b (suc (suc c)) h = absurd (omega arith)

-- ---- bitwise operators
pub byte_and : (a b : ℕ) → a < 256 → b < 256 → looked_up 136 a b 0 ≡ bit_and a b
byte_and a b ha hb = x_is 136 0 min a b (bit_and a b) (record { at = four (λ p q. bit_at 136 (p + 2 * q + 4 * 0) ≡ min p q) refl refl refl refl }) (and_lt 8 a b ha hb) (λ k s. sym (bit_at_and a b k))

pub byte_or : (a b : ℕ) → a < 256 → b < 256 → looked_up 238 a b 0 ≡ bit_or a b
byte_or a b ha hb = x_is 238 0 max a b (bit_or a b) (record { at = four (λ p q. bit_at 238 (p + 2 * q + 4 * 0) ≡ max p q) refl refl refl refl }) (or_lt 8 a b ha hb) (λ k s. sym (bit_at_or a b k))

pub byte_xor : (a b : ℕ) → a < 256 → b < 256 → looked_up 102 a b 0 ≡ bit_xor a b
byte_xor a b ha hb = x_is 102 0 (λ p q. (p + q) % 2) a b (bit_xor a b) (record { at = four (λ p q. bit_at 102 (p + 2 * q + 4 * 0) ≡ (p + q) % 2) refl refl refl refl }) (xor_lt 8 a b ha hb) (λ k s. sym (bit_at_xor a b k))

-- ---- by C
pub byte_b_and_c : (a b c : ℕ) → b < 256 → c ≤ 1 → looked_up 192 a b c ≡ c * b
byte_b_and_c a b zero h l = x_is 192 0 (λ p q. 0) a b 0 (record { at = four (λ p q. bit_at 192 (p + 2 * q + 4 * 0) ≡ 0) refl refl refl refl }) (omega arith) (λ k s. omega arith) ∙ omega arith
byte_b_and_c a b (suc zero) h l = x_is 192 1 (λ p q. q) a b b (record { at = four (λ p q. bit_at 192 (p + 2 * q + 4 * 1) ≡ q) refl refl refl refl }) h (λ k s. refl) ∙ omega arith
byte_b_and_c a b (suc (suc c)) h l = absurd (omega arith)

pub byte_a_where_1 : (a b : ℕ) → a < 256 → looked_up 172 a b 1 ≡ a
byte_a_where_1 a b h = x_is 172 1 (λ p q. p) a b a (record { at = four (λ p q. bit_at 172 (p + 2 * q + 4 * 1) ≡ p) refl refl refl refl }) h (λ k s. refl)

pub byte_b_where_0 : (a b : ℕ) → b < 256 → looked_up 172 a b 0 ≡ b
byte_b_where_0 a b h = x_is 172 0 (λ p q. q) a b b (record { at = four (λ p q. bit_at 172 (p + 2 * q + 4 * 0) ≡ q) refl refl refl refl }) h (λ k s. refl)

pub byte_b_where_1 : (a b : ℕ) → b < 256 → looked_up 202 a b 1 ≡ b
byte_b_where_1 a b h = x_is 202 1 (λ p q. q) a b b (record { at = four (λ p q. bit_at 202 (p + 2 * q + 4 * 1) ≡ q) refl refl refl refl }) h (λ k s. refl)

pub byte_a_where_0 : (a b : ℕ) → a < 256 → looked_up 202 a b 0 ≡ a
byte_a_where_0 a b h = x_is 202 0 (λ p q. p) a b a (record { at = four (λ p q. bit_at 202 (p + 2 * q + 4 * 0) ≡ p) refl refl refl refl }) h (λ k s. refl)

pub byte_extended_0 : (a b : ℕ) → a < 256 → looked_up 234 a b 0 ≡ a
byte_extended_0 a b h = x_is 234 0 (λ p q. p) a b a (record { at = four (λ p q. bit_at 234 (p + 2 * q + 4 * 0) ≡ p) refl refl refl refl }) h (λ k s. refl)

pub byte_extended_1 : (a b : ℕ) → a < 256 → b < 256 → looked_up 234 a b 1 ≡ bit_or a b
byte_extended_1 a b ha hb = x_is 234 1 max a b (bit_or a b) (record { at = four (λ p q. bit_at 234 (p + 2 * q + 4 * 1) ≡ max p q) refl refl refl refl }) (or_lt 8 a b ha hb) (λ k s. sym (bit_at_or a b k))

pub byte_flipped_0 : (a b : ℕ) → a < 256 → looked_up 90 a b 0 ≡ a
byte_flipped_0 a b h = x_is 90 0 (λ p q. p) a b a (record { at = four (λ p q. bit_at 90 (p + 2 * q + 4 * 0) ≡ p) refl refl refl refl }) h (λ k s. refl)

pub byte_flipped_1 : (a b : ℕ) → a < 256 → looked_up 90 a b 1 ≡ 255 - a
byte_flipped_1 a b h = x_is 90 1 (λ p q. 1 - p) a b (255 - a) (record { at = four (λ p q. bit_at 90 (p + 2 * q + 4 * 1) ≡ 1 - p) refl refl refl refl }) (omega arith) (λ k s. sym (bit_at_not w8 a k h s))

-- ---- tables that do not look at C
steady_of : (table : ℕ) → ((p q : ℕ) → p < 2 → q < 2 → bit_at table (p + 2 * q + 4 * 1) ≡ bit_at table (p + 2 * q + 4 * 0)) → Steady table
unfolding looked_up
steady_of table h = record { same = λ a b. of_bits_by 8 _ _ (λ k l. h (bit_at a k) (bit_at b k) (bit_at-lt a k) (bit_at-lt b k)) }

pub steady_b : Steady 204
steady_b = steady_of 204 (four (λ p q. bit_at 204 (p + 2 * q + 4 * 1) ≡ bit_at 204 (p + 2 * q + 4 * 0)) refl refl refl refl)

pub steady_not_b : Steady 51
steady_not_b = steady_of 51 (four (λ p q. bit_at 51 (p + 2 * q + 4 * 1) ≡ bit_at 51 (p + 2 * q + 4 * 0)) refl refl refl refl)

pub steady_xor : Steady 102
steady_xor = steady_of 102 (four (λ p q. bit_at 102 (p + 2 * q + 4 * 1) ≡ bit_at 102 (p + 2 * q + 4 * 0)) refl refl refl refl)
