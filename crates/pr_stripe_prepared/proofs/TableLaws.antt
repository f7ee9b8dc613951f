-- Tables with an even number of ones: X is an exclusive or of a constant, A and B.
use Rattle.std.proofs.Common.{◌≡◌, ℕ, ◌+◌, ◌%◌, ◌^◌, ◌<◌, cond, eqb, min, bit_and, bit_xor, sym, ap, ap₂, ◌∙◌, arith}
use Rattle.std.specs.Int.{bit_at}
use Rattle.std.specs.Int.Bits.{and_lt}
use Rattle.std.proofs.lemmas.Nat.{xor_lt}
use Rattle.std.proofs.lemmas.Nat.Bits.{bit_at_and, bit_at_xor, bit_at-lt, same_from_bits_below}
use Rattle.std.proofs.lemmas.Bool.Decides.{nat_tests}
use Rattle.pr_lanes.specs.Rows.{chosen}
use Rattle.pr_lanes.proofs.Tables.{chosen_at, chosen-lt}

-- ---- bits that are turned round
bit_turned : (x f a : ℕ) → x < 2 → f < 2 → a < 2 → cond (eqb a 0) x ((x + f) % 2) ≡ (x + min a f) % 2
bit_turned x f a hx hf ha = grind (arith, nat_tests)

-- turning round twice
pub xor_again : (x y : ℕ) → x < 2 ^ 8 → y < 2 ^ 8 → bit_xor x (bit_xor x y) ≡ y
xor_again x y hx hy = same_from_bits_below 8 (bit_xor x (bit_xor x y)) y (xor_lt 8 x (bit_xor x y) hx (xor_lt 8 x y hx hy)) hy
    (λ i l.
    let lx = bit_at-lt x i in
    let ly = bit_at-lt y i in
    bit_at_xor x (bit_xor x y) i ∙ ap (λ b. (bit_at x i + b) % 2) (bit_at_xor x y i) ∙ omega arith)

xor_swap : (x g m : ℕ) → x < 2 ^ 8 → g < 2 ^ 8 → m < 2 ^ 8 → bit_xor (bit_xor x g) m ≡ bit_xor (bit_xor x m) g
xor_swap x g m hx hg hm = same_from_bits_below 8 (bit_xor (bit_xor x g) m) (bit_xor (bit_xor x m) g) (xor_lt 8 (bit_xor x g) m (xor_lt 8 x g hx hg) hm) (xor_lt 8 (bit_xor x m) g (xor_lt 8 x m hx hm) hg)
    (λ i l.
    let left = bit_at_xor (bit_xor x g) m i ∙ ap (λ b. (b + bit_at m i) % 2) (bit_at_xor x g i) in
    let right = bit_at_xor (bit_xor x m) g i ∙ ap (λ b. (b + bit_at g i) % 2) (bit_at_xor x m i) in
    let same : ((bit_at x i + bit_at g i) % 2 + bit_at m i) % 2 ≡ ((bit_at x i + bit_at m i) % 2 + bit_at g i) % 2 = omega arith in
    left ∙ same ∙ sym right)

-- choosing between a byte and what it is with bits turned round
chosen_turned : (x f a : ℕ) → x < 2 ^ 8 → f < 2 ^ 8 → a < 2 ^ 8 → chosen x (bit_xor x f) a ≡ bit_xor x (bit_and a f)
chosen_turned x f a hx hf ha = same_from_bits_below 8 (chosen x (bit_xor x f) a) (bit_xor x (bit_and a f)) (chosen-lt x (bit_xor x f) a hx (xor_lt 8 x f hx hf) ha) (xor_lt 8 x (bit_and a f) hx (and_lt 8 a f ha hf))
    (λ i l.
    let right = bit_at_xor x (bit_and a f) i ∙ ap (λ b. (bit_at x i + b) % 2) (bit_at_and a f i) in
    chosen_at x (bit_xor x f) a i ha l
    ∙ ap (λ y. cond (eqb (bit_at a i) 0) (bit_at x i) y) (bit_at_xor x f i)
    ∙ bit_turned (bit_at x i) (bit_at f i) (bit_at a i) (bit_at-lt x i) (bit_at-lt f i) (bit_at-lt a i)
    ∙ sym right)

-- X by turning bits round, where turning A's bits round is the same whatever B is
pub found_even : (t1 t2 t4 t8 f g a b : ℕ) → t1 < 2 ^ 8 → f < 2 ^ 8 → g < 2 ^ 8 → a < 2 ^ 8 → b < 2 ^ 8 → t2 ≡ bit_xor t1 f → t4 ≡ bit_xor t1 g → t8 ≡ bit_xor t4 f
    → chosen (chosen t1 t2 a) (chosen t4 t8 a) b ≡ bit_xor (bit_xor t1 (bit_and a f)) (bit_and b g)
found_even t1 t2 t4 t8 f g a b h1 hf hg ha hb e2 e4 e8 =
    let m = bit_and a f in
    let hm = and_lt 8 a f ha hf in
    let first : chosen t1 t2 a ≡ bit_xor t1 m = ap (λ x. chosen t1 x a) e2 ∙ chosen_turned t1 f a h1 hf ha in
    let second : chosen t4 t8 a ≡ bit_xor (bit_xor t1 m) g =
    ap (λ x. chosen t4 x a) e8 ∙ ap (λ x. chosen x (bit_xor x f) a) e4 ∙ chosen_turned (bit_xor t1 g) f a (xor_lt 8 t1 g h1 hg) hf ha ∙ xor_swap t1 g m h1 hg hm in
    ap₂ (λ x y. chosen x y b) first second ∙ chosen_turned (bit_xor t1 m) g b (xor_lt 8 t1 m h1 hm) hg hb
