-- The expression of a table is the look-up.
use Rattle.std.proofs.Common.{◌≡◌, ◌<◌, ℕ, zero, suc, ◌+◌, ◌-◌, ◌*◌, ◌%◌, ◌^◌, ◌==◌, min, max, Bool, true, false, bit_and, bit_or, bit_xor, refl, sym, ap, ◌∙◌, arith, w8, if◌then◌else◌}
use Rattle.std.specs.Int.{bit_at}
use Rattle.std.proofs.Math.Nat.{mod-eq_of_lt}
use Rattle.std.proofs.lemmas.Nat.{mod-pow-add, or_lt, xor_lt}
use Rattle.std.specs.Int.Bits.{and_lt}
use Rattle.std.proofs.lemmas.Nat.Bits.{bit_at_and, bit_at_or, bit_at_xor, bit_at_not, bit_at-lt, bit_at-zero, bit_at_ones}
use Rattle.pr_base.specs.Pe.{of_bits, looked_up}
use Rattle.pr_lens_rtl.specs.Verilog.{Expr, Values, value, bit_of}
use Rattle.pr_lens_rtl.specs.Module.{two_input, is_one_at, four_of}

-- ---- a byte by its bits
of_bits_by : (n : ℕ) (f g : ℕ → ℕ) → ((k : ℕ) → k < n → f k ≡ g k) → of_bits n f ≡ of_bits n g
of_bits_by zero f g h = refl
of_bits_by (suc n) f g h = rw (of_bits_by n f g (λ k lt. h k (omega arith)), h n (omega arith)) refl

of_bits_mod : (n x : ℕ) → of_bits n (bit_at x) ≡ x % 2 ^ n
of_bits_mod zero x = let one : x % 1 ≡ 0 = omega arith in sym one
of_bits_mod (suc n) x = let e : suc n ≡ 1 + n = omega arith in rw (of_bits_mod n x, e, mod-pow-add x 1 n) (omega arith)

pub x_by : (table a b c x : ℕ) → x < 256 → ((k : ℕ) → k < 8 → bit_at table (bit_at a k + 2 * bit_at b k + 4 * c) ≡ bit_at x k) → looked_up table a b c ≡ x
unfolding looked_up
x_by table a b c x small h = of_bits_by 8 _ _ h ∙ of_bits_mod 8 x ∙ mod-eq_of_lt small

pub four : (P : ℕ → ℕ → Type 0) → P 0 0 → P 0 1 → P 1 0 → P 1 1 → (p q : ℕ) → p < 2 → q < 2 → P p q
four P a b c d zero zero h k = a
four P a b c d zero (suc zero) h k = b
four P a b c d (suc zero) zero h k = c
four P a b c d (suc zero) (suc zero) h k = d
four P a b c d zero (suc (suc q)) h k = absurd (omega arith)
four P a b c d (suc zero) (suc (suc q)) h k = absurd (omega arith)
four P a b c d (suc (suc p)) q h k = absurd (omega arith)

-- ---- the sixteen functions
-- which of four bits two bits choose
abbrev pub picked : Bool → Bool → Bool → Bool → ℕ → ℕ → ℕ
picked w x y z p q = bit_of (if q == 0 then (if p == 0 then w else x) else (if p == 0 then y else z))

-- a byte that has at each place what is picked there
pub record Picks (w x y z : Bool) (a b r : ℕ) : Type 0 where
  pub small : r < 256
  pub at : (k : ℕ) → k < 8 → bit_at r k ≡ picked w x y z (bit_at a k) (bit_at b k)

module _ (now : Values) (a b : Expr) (ha : value now a 8 < 256) (hb : value now b 8 < 256) where
  p : ℕ → ℕ
  p k = bit_at (value now a 8) k

  by_four : (w x y z : Bool) (f : ℕ → ℕ → ℕ) (r : ℕ) → r < 256
      → ((k : ℕ) → k < 8 → bit_at r k ≡ f (bit_at (value now a 8) k) (bit_at (value now b 8) k))
      → f 0 0 ≡ bit_of w → f 1 0 ≡ bit_of x → f 0 1 ≡ bit_of y → f 1 1 ≡ bit_of z
      → Picks w x y z (value now a 8) (value now b 8) r
  by_four w x y z f r small at fw fx fy fz = record {
    small = small;
    at = λ k l. at k l ∙ four (λ p q. f p q ≡ picked w x y z p q) fw fy fx fz (bit_at (value now a 8) k) (bit_at (value now b 8) k) (bit_at-lt (value now a 8) k) (bit_at-lt (value now b 8) k);
  }

  not_a : (k : ℕ) → k < 8 → bit_at (255 - value now a 8) k ≡ 1 - bit_at (value now a 8) k
  not_a k l = bit_at_not w8 (value now a 8) k ha l

  not_b : (k : ℕ) → k < 8 → bit_at (255 - value now b 8) k ≡ 1 - bit_at (value now b 8) k
  not_b k l = bit_at_not w8 (value now b 8) k hb l

  and_small : (x y : ℕ) → x < 256 → y < 256 → bit_and x y < 256
  and_small x y h k = and_lt 8 x y h k

  pub picks : (w x y z : Bool) → Picks w x y z (value now a 8) (value now b 8) (value now (two_input w x y z a b) 8)
  picks false false false false = by_four false false false false (λ p q. 0) 0 (omega arith) (λ k l. bit_at-zero k) refl refl refl refl
  picks true false false false = by_four true false false false (λ p q. 1 - max p q) (255 - bit_or (value now a 8) (value now b 8)) (omega arith)
      (λ k l. bit_at_not w8 (bit_or (value now a 8) (value now b 8)) k (or_lt 8 _ _ ha hb) l ∙ ap (λ n. 1 - n) (bit_at_or (value now a 8) (value now b 8) k)) refl refl refl refl
  picks false true false false = by_four false true false false (λ p q. min p (1 - q)) (bit_and (value now a 8) (255 - value now b 8)) (and_small _ _ ha (omega arith))
      (λ k l. bit_at_and (value now a 8) (255 - value now b 8) k ∙ ap (min (bit_at (value now a 8) k)) (not_b k l)) refl refl refl refl
  picks true true false false = by_four true true false false (λ p q. 1 - q) (255 - value now b 8) (omega arith) not_b refl refl refl refl
  picks false false true false = by_four false false true false (λ p q. min (1 - p) q) (bit_and (255 - value now a 8) (value now b 8)) (and_small _ _ (omega arith) hb)
      (λ k l. bit_at_and (255 - value now a 8) (value now b 8) k ∙ ap (λ n. min n (bit_at (value now b 8) k)) (not_a k l)) refl refl refl refl
  picks true false true false = by_four true false true false (λ p q. 1 - p) (255 - value now a 8) (omega arith) not_a refl refl refl refl
  picks false true true false = by_four false true true false (λ p q. (p + q) % 2) (bit_xor (value now a 8) (value now b 8)) (xor_lt 8 _ _ ha hb)
      (λ k l. bit_at_xor (value now a 8) (value now b 8) k) refl refl refl refl
  picks true true true false = by_four true true true false (λ p q. 1 - min p q) (255 - bit_and (value now a 8) (value now b 8)) (omega arith)
      (λ k l. bit_at_not w8 (bit_and (value now a 8) (value now b 8)) k (and_small _ _ ha hb) l ∙ ap (λ n. 1 - n) (bit_at_and (value now a 8) (value now b 8) k)) refl refl refl refl
  picks false false false true = by_four false false false true (λ p q. min p q) (bit_and (value now a 8) (value now b 8)) (and_small _ _ ha hb)
      (λ k l. bit_at_and (value now a 8) (value now b 8) k) refl refl refl refl
  picks true false false true = by_four true false false true (λ p q. 1 - (p + q) % 2) (255 - bit_xor (value now a 8) (value now b 8)) (omega arith)
      (λ k l. bit_at_not w8 (bit_xor (value now a 8) (value now b 8)) k (xor_lt 8 _ _ ha hb) l ∙ ap (λ n. 1 - n) (bit_at_xor (value now a 8) (value now b 8) k)) refl refl refl refl
  picks false true false true = by_four false true false true (λ p q. p) (value now a 8) ha (λ k l. refl) refl refl refl refl
  picks true true false true = by_four true true false true (λ p q. max p (1 - q)) (bit_or (value now a 8) (255 - value now b 8)) (or_lt 8 _ _ ha (omega arith))
      (λ k l. bit_at_or (value now a 8) (255 - value now b 8) k ∙ ap (max (bit_at (value now a 8) k)) (not_b k l)) refl refl refl refl
  picks false false true true = by_four false false true true (λ p q. q) (value now b 8) hb (λ k l. refl) refl refl refl refl
  picks true false true true = by_four true false true true (λ p q. max (1 - p) q) (bit_or (255 - value now a 8) (value now b 8)) (or_lt 8 _ _ (omega arith) hb)
      (λ k l. bit_at_or (255 - value now a 8) (value now b 8) k ∙ ap (λ n. max n (bit_at (value now b 8) k)) (not_a k l)) refl refl refl refl
  picks false true true true = by_four false true true true (λ p q. max p q) (bit_or (value now a 8) (value now b 8)) (or_lt 8 _ _ ha hb)
      (λ k l. bit_at_or (value now a 8) (value now b 8) k) refl refl refl refl
  picks true true true true = by_four true true true true (λ p q. 1) 255 (omega arith) (λ k l. bit_at_ones 8 k l) refl refl refl refl

  -- a bit is one exactly where the test says so
  bit_is : (n : ℕ) → n < 2 → n ≡ bit_of (n == 1)
  bit_is zero l = refl
  bit_is (suc zero) l = refl
  bit_is (suc (suc n)) l = absurd (omega arith)

  chosen_bit : (table from : ℕ) (p q : ℕ) → p < 2 → q < 2
      → bit_at table (p + 2 * q + from) ≡ picked (is_one_at table from) (is_one_at table (from + 1)) (is_one_at table (from + 2)) (is_one_at table (from + 3)) p q
  chosen_bit table from = four (λ p q. bit_at table (p + 2 * q + from) ≡ picked (is_one_at table from) (is_one_at table (from + 1)) (is_one_at table (from + 2)) (is_one_at table (from + 3)) p q)
      (at 0 0 from (omega arith)) (at 0 1 (from + 2) (omega arith)) (at 1 0 (from + 1) (omega arith)) (at 1 1 (from + 3) (omega arith))
    where
      at : (p q j : ℕ) → p + 2 * q + from ≡ j → bit_at table (p + 2 * q + from) ≡ bit_of (is_one_at table j)
      at p q j e = ap (bit_at table) e ∙ bit_is (bit_at table j) (bit_at-lt table j)

  -- the heart: the expression of half a table is the look-up with this C
  pub table_law : (table c : ℕ) → value now (four_of table (4 * c) a b) 8 ≡ looked_up table (value now a 8) (value now b 8) c
  table_law table c =
      let h = picks (is_one_at table (4 * c)) (is_one_at table (4 * c + 1)) (is_one_at table (4 * c + 2)) (is_one_at table (4 * c + 3)) in
      sym (x_by table (value now a 8) (value now b 8) c (value now (four_of table (4 * c) a b) 8) h.small
      (λ k l. chosen_bit table (4 * c) (bit_at (value now a 8) k) (bit_at (value now b 8) k) (bit_at-lt (value now a 8) k) (bit_at-lt (value now b 8) k) ∙ sym (h.at k l)))

  pub four_small : (table from : ℕ) → value now (four_of table from a b) 8 < 256
  four_small table from = (picks (is_one_at table from) (is_one_at table (from + 1)) (is_one_at table (from + 2)) (is_one_at table (from + 3))).small
