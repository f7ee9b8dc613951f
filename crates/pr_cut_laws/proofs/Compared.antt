-- Chains that are closed: the carry of a difference, and whether two values are equal.
use Rattle.std.proofs.Common.{ℕ, zero, suc, ◌≡◌, ◌+◌, ◌*◌, ◌/◌, ◌%◌, ◌^◌, ◌-◌, ◌<◌, ◌≤◌, ◌==◌, ◌&&◌, Bool, true, false, not, cond, nat_lt, nat_le, nat_eq, List, [], ◌∷◌, map, bit_xor, subst, refl, ap, ap₂, sym, ◌∙◌, inl, inr, arith}
use Rattle.std.specs.Bool.{if◌then◌else◌}
use Rattle.std.specs.List.{range_with_len}
use Rattle.std.specs.Int.Bits.{xor_self, xor_assoc, xor_zero_l, xor_zero_r}
use Rattle.std.proofs.Math.Nat.{mod-eq_of_lt, mod-add-div, div-div-eq-div-mul, div-eq_of_lt, div-eq-sub-div}
use Rattle.std.proofs.lemmas.Bool.{cases_lt, lt-ltb, le-ltb, lt-leb, le-leb, cases_Bool, eqb-true, ne_eqb, eqb-false}
use Rattle.pr_base.specs.Numbers.{byte_at}
use Rattle.pr_base.specs.Pe.{looked_up}
use Rattle.pr_base.specs.declared.choices.Carry.{Carry}
use Rattle.pr_base.specs.declared.choices.Mode.{Mode}
use Rattle.pr_flat.specs.Rows.{bit}
use Rattle.pr_net.specs.declared.cells.Slice.{Slice}
use Rattle.pr_net.specs.declared.cells.WireBit.{WireBit}
use Rattle.pr_net.specs.declared.cells.Cell.{Cell}
use Rattle.pr_net.specs.Reading.{Reading, wire_byte, slice_byte, cell_byte, cell_carry, carry_after, Has, shown}
use Rattle.pr_net.specs.Runs.{AreBytes}
use Rattle.pr_cut_units.specs.declared.chains.Style.{Style}
use Rattle.pr_cut_units.specs.Cells.{plain, byte}
use Rattle.pr_cut_units.specs.Parts.{each}
use Rattle.pr_cut_units.specs.Chains.{linked, carried, segments, place_after, entries, closed_chain}
use Rattle.pr_cut_units.specs.Operators.{sum_cell}
use Rattle.pr_cut_units.proofs.AddMeaning.{Bytes}
use Rattle.pr_cut_units.proofs.ChainMeaning.{AllSuit, chained, begin_bit, unseen_end, after_small, ReadBytes}
use Rattle.pr_cut_units.proofs.Tables.{byte_xor, byte_not_b, steady_not_b, steady_xor}
use Rattle.pr_cut_units.proofs.Sums.{mod_scaled}
use Rattle.pr_cut_laws.proofs.Digits.{bytes_pow, big_pos, more_bytes, next_byte}
use Rattle.pr_cut_laws.proofs.Shown.{byte_is}
use Rattle.pr_cut_laws.proofs.Plains.{turned_bytes, byte_turned}
use Rattle.pr_cut_laws.proofs.ChainSums.{suits_from}

begin_carry : (r : Reading) (first : Carry) (k : Cell) → k.c ≡ WireBit.None → cell_carry r (record k { cin = first }) 0 ≡ cell_carry r (chained k) (begin_bit first)
begin_carry r Carry.Zero k h = rw h refl
begin_carry r Carry.One k h = rw h refl
begin_carry r Carry.Chain k h = rw h refl
begin_carry r Carry.FromC k h = rw h refl

same_place : (s : Style) (u room place : ℕ) (ks : List Cell) → place_after s u room place ks ≡ place_after s u room place (map chained ks)
same_place s u room place [] = refl
same_place s u zero place (k ∷ ks) = same_place s (suc u) 3 (suc (entries s)) ks
same_place s u (suc room) place (k ∷ ks) = same_place s u room (suc place) ks

-- the cell that closes a chain reads the carry of all of it
closed_shows : (r : Reading) (u : ℕ) (first : Carry) (q k : Cell) (ks : List Cell) → AreBytes r → AllSuit Style.ByBit (k ∷ ks) → Has r u (segments Style.ByBit u 4 [] (q ∷ []) (linked first (k ∷ ks))) → slice_byte r (place_after Style.ByBit u 4 0 (k ∷ ks)) ≡ cell_byte r q (carry_after r (map chained (k ∷ ks)) (begin_bit first))
closed_shows r u first q k ks b t h =
    ap (slice_byte r) (same_place Style.ByBit u 3 1 ks) ∙ unseen_end Style.ByBit r u 3 (record k { cin = first } ∷ []) ks q b (t.0.1, tt) t.1 h ∙ ap (λ (c : ℕ). cell_byte r q (carry_after r (map chained ks) c)) (begin_carry r first k t.0.0.none)

pub closing_shows : (r : Reading) (c : ℕ) → c ≤ 1 → (cell_byte r (carried 240) c ≡ c) × (cell_byte r (carried 15) c ≡ 1 - c)
unfolding looked_up
closing_shows r zero h = (refl, refl)
closing_shows r (suc zero) h = (refl, refl)
closing_shows r (suc (suc c)) h = absurd (omega arith)

read_from : (r : Reading) (x : List Slice) (f : ℕ → Cell) (a n : ℕ) → Bytes r x → ((i : ℕ) → (f i).a ≡ byte x i) → ReadBytes (map chained (map f (range_with_len a n)))
read_from r x f a zero h k = tt
read_from r x f a (suc n) h k = (rw (k a) (h.field a), read_from r x f (a + 1) n h k)

-- ---- the carry of a sum
carry_step : (s p q m : ℕ) → 0 < m → (s / 256 + p + q) / m ≡ (s + 256 * p + 256 * q) / (256 * m)
carry_step s p q m h =
    let e : (s + 256 * p + 256 * q) / 256 ≡ s / 256 + p + q = omega arith in
    ap (λ (k : ℕ). k / m) (sym e) ∙ div-div-eq-div-mul (s + 256 * p + 256 * q) 256 m

two_parts : (x a n : ℕ) → x / 256 ^ a % 256 ^ suc n ≡ byte_at x a + 256 * (x / 256 ^ (a + 1) % 256 ^ n)
two_parts x a n =
    let y : ℕ = x / 256 ^ a in
    ap₂ (λ (i j : ℕ). i % j) (sym (mod-add-div y 256)) (more_bytes n) ∙ mod_scaled (y % 256) 256 (y / 256) (256 ^ n) (omega arith) (big_pos n) ∙ ap (λ (k : ℕ). y % 256 + 256 * (k % 256 ^ n)) (sym (next_byte x a))

carry_from : (r : Reading) (f : ℕ → Cell) (x y a n c : ℕ) → ((i : ℕ) → i < a + n → (d : ℕ) → cell_carry r (chained (f i)) d ≡ (byte_at x i + byte_at y i + d) / 256) → carry_after r (map chained (map f (range_with_len a n))) c ≡ (x / 256 ^ a % 256 ^ n + y / 256 ^ a % 256 ^ n + c) / 256 ^ n
carry_from r f x y a zero c h = omega arith
carry_from r f x y a (suc n) c h =
    let s : ℕ = byte_at x a + byte_at y a + c in
    let p : ℕ = x / 256 ^ (a + 1) % 256 ^ n in
    let q : ℕ = y / 256 ^ (a + 1) % 256 ^ n in
    let ih : carry_after r (map chained (map f (range_with_len (a + 1) n))) (s / 256) ≡ (p + q + s / 256) / 256 ^ n = carry_from r f x y (a + 1) n (s / 256) (λ i l d. h i (omega (arith, l)) d) in
    let w : (p + q + s / 256) / 256 ^ n ≡ (s + 256 * p + 256 * q) / (256 * 256 ^ n) = ap (λ (k : ℕ). k / 256 ^ n) (omega arith) ∙ carry_step s p q (256 ^ n) (big_pos n) in
    let v : s + 256 * p + 256 * q ≡ x / 256 ^ a % 256 ^ suc n + y / 256 ^ a % 256 ^ suc n + c = omega (arith, two_parts x a n, two_parts y a n) in
    ap (carry_after r (map chained (map f (range_with_len (a + 1) n)))) (h a (omega arith) c) ∙ ih ∙ w ∙ ap₂ (λ (i j : ℕ). i / j) v (sym (more_bytes n))

one_div : (x s : ℕ) → s ≤ x → x < 2 * s → x / s ≡ 1
one_div x zero h l = absurd (omega arith)
one_div x (suc s) h l =
    let e : (x - suc s) / suc s ≡ 0 = div-eq_of_lt (omega arith) in
    div-eq-sub-div {m = suc s} {n = x} (omega arith) h ∙ omega (arith, e)

carry_of : (a b s : ℕ) → a < s → b < s → (a + (s - 1 - b) + 1) / s ≡ cond (nat_lt a b) 0 1
carry_of a b s ha hb = elim (cases_lt a b) [
  | inl l ↦ rw (lt-ltb a b l) (div-eq_of_lt (omega arith))
  | inr g ↦ rw (le-ltb a b g) (one_div (a + (s - 1 - b) + 1) s (omega arith) (omega arith))
]

-- no carry comes out of a difference where the first is less
less_carry : (r : Reading) (n : ℕ) (x y : List Slice) → Bytes r x → Bytes r y → shown r x < 256 ^ n → shown r y < 256 ^ n → carry_after r (map chained (each n (sum_cell 51 x y))) 1 ≡ cond (nat_lt (shown r x) (shown r y)) 0 1
less_carry r n x y hx hy lx ly =
    let z : ℕ = turned_bytes n (shown r y) in
    let p : 256 ^ n ≡ 2 ^ (8 * n) = bytes_pow n in
    let ly' : shown r y < 2 ^ (8 * n) = subst (λ (k : ℕ). shown r y < k) p ly in
    let zi : z ≡ 256 ^ n - 1 - shown r y = ap (λ (k : ℕ). 2 ^ (8 * n) - 1 - k) (mod-eq_of_lt ly') ∙ ap (λ (k : ℕ). k - 1 - shown r y) (sym p) in
    let zl : z < 256 ^ n = omega (arith, zi, big_pos n) in
    let step : (i : ℕ) → i < 0 + n → (d : ℕ) → cell_carry r (chained (sum_cell 51 x y i)) d ≡ (byte_at (shown r x) i + byte_at z i + d) / 256 =
    λ i l d. ap₂ (λ (s t : ℕ). (s + t + d) / 256) (byte_is r x i hx) (byte_not_b (wire_byte r (byte x i)) (wire_byte r (byte y i)) 0 (hy.at i) (omega arith) ∙ ap (λ (k : ℕ). 255 - k) (byte_is r y i hy) ∙ byte_turned n (shown r y) i (omega (arith, l))) in
    carry_from r (sum_cell 51 x y) (shown r x) z 0 n 1 step
    ∙ ap₂ (λ (s t : ℕ). (s + t + 1) / 256 ^ n) (ap (λ (k : ℕ). k % 256 ^ n) (one (shown r x)) ∙ mod-eq_of_lt lx) (ap (λ (k : ℕ). k % 256 ^ n) (one z) ∙ mod-eq_of_lt zl ∙ zi)
    ∙ carry_of (shown r x) (shown r y) (256 ^ n) lx ly
  where
    one : (v : ℕ) → v / 256 ^ 0 ≡ v
    one v = omega arith

pub one_slice : (r : Reading) (s : Slice) → shown r (s ∷ []) ≡ slice_byte r s
one_slice r s = omega arith

-- a chain of at least one cell
some_cells : (r : Reading) (u n : ℕ) (first : Carry) (table : ℕ) (f : ℕ → Cell) → 1 ≤ n → AreBytes r → AllSuit Style.ByBit (each n f) → Has r u (closed_chain first table (each n f) u).units → shown r (closed_chain first table (each n f) u).slices ≡ cell_byte r (carried table) (carry_after r (map chained (each n f)) (begin_bit first))
some_cells r u zero first table f some b t h = absurd (omega arith)
some_cells r u (suc n) first table f some b t h = one_slice r (place_after Style.ByBit u 4 0 (each (suc n) f)) ∙ closed_shows r u first (carried table) (f 0) (map f (range_with_len (0 + 1) n)) b t h

-- Less and GreaterEqual of numbers of n bytes
pub less_shows : (r : Reading) (u n : ℕ) (x y : List Slice) → 1 ≤ n → AreBytes r → Bytes r x → Bytes r y → shown r x < 256 ^ n → shown r y < 256 ^ n
    → (Has r u (closed_chain Carry.One 15 (each n (sum_cell 51 x y)) u).units → shown r (closed_chain Carry.One 15 (each n (sum_cell 51 x y)) u).slices ≡ bit (nat_lt (shown r x) (shown r y)))
    × (Has r u (closed_chain Carry.One 240 (each n (sum_cell 51 x y)) u).units → shown r (closed_chain Carry.One 240 (each n (sum_cell 51 x y)) u).slices ≡ bit (nat_le (shown r y) (shown r x)))
less_shows r u n x y some b hx hy lx ly =
    let f : ℕ → Cell = sum_cell 51 x y in
    let t = suits_from r x f 0 n hx (λ i. refl) (λ i. steady_not_b) (λ i. refl) in
    let c : ℕ = carry_after r (map chained (each n f)) 1 in
    let small : c ≤ 1 = after_small r (map chained (each n f)) 1 b (read_from r x f 0 n hx (λ i. refl)) (omega arith) in
    let is : c ≡ cond (nat_lt (shown r x) (shown r y)) 0 1 = less_carry r n x y hx hy lx ly in
    let s = closing_shows r c small in (
      λ h. some_cells r u n Carry.One 15 f some b t h ∙ s.1 ∙ ap (λ (k : ℕ). 1 - k) is ∙ other (nat_lt (shown r x) (shown r y)),
      λ h. some_cells r u n Carry.One 240 f some b t h ∙ s.0 ∙ is ∙ contrary (shown r x) (shown r y),
    )
  where
    other : (b : Bool) → 1 - cond b 0 1 ≡ bit b
    other true = refl
    other false = refl

    contrary : (i j : ℕ) → cond (nat_lt i j) 0 1 ≡ bit (nat_le j i)
    contrary i j = elim (cases_lt i j) [
      | inl l ↦ rw (lt-ltb i j l, lt-leb j i l) refl
      | inr g ↦ rw (le-ltb i j g, le-leb j i g) refl
    ]

-- ---- equality
abbrev pub equal_cell : List Slice → List Slice → ℕ → Cell
equal_cell x y i = record plain { a = byte x i; hi = byte y i; mode = Mode.Zero; table = 102 }

-- the exclusive or of two numbers is 0 where they are equal alone
xor_zero : (a b : ℕ) → bit_xor a b ≡ 0 → a ≡ b
xor_zero a b h = sym (xor_zero_r a) ∙ ap (bit_xor a) (sym (xor_self b)) ∙ sym (xor_assoc a b b) ∙ ap (λ (k : ℕ). bit_xor k b) h ∙ xor_zero_l b

abbrev one_if : Bool → ℕ
one_if t = if t then 1 else 0

equal_step : (a b c : ℕ) → c ≤ 1 → one_if (c == 1 && bit_xor a b == 0) ≡ cond (nat_eq a b) c 0
equal_step a b c hc = elim (cases_Bool (nat_eq a b)) [
  | inl t ↦ (let z : bit_xor a b ≡ 0 = ap (bit_xor a) (sym (eqb-true a b t)) ∙ xor_self a in rw (z, t) (pass c hc))
  | inr f ↦ rw (f, ne_eqb (bit_xor a b) 0 (λ z. differ f (xor_zero a b z))) (none c)
]
  where
    pass : (c : ℕ) → c ≤ 1 → one_if (c == 1 && true) ≡ c
    pass zero h = refl
    pass (suc zero) h = refl
    pass (suc (suc c)) h = absurd (omega arith)

    none : (c : ℕ) → one_if (c == 1 && false) ≡ 0
    none c = elim (c == 1) as (λ t. one_if (t && false) ≡ 0) [ true ↦ refl | false ↦ refl ]

    differ : nat_eq a b ≡ false → a ≡ b → ⊥
    differ f e = eqb-false a b f e

equal_from : (r : Reading) (x y : List Slice) (a n c : ℕ) → c ≤ 1 → Bytes r x → Bytes r y → carry_after r (map chained (map (equal_cell x y) (range_with_len a n))) c ≡ cond (nat_eq (shown r x / 256 ^ a % 256 ^ n) (shown r y / 256 ^ a % 256 ^ n)) c 0
equal_from r x y a zero c hc hx hy =
    let p : shown r x / 256 ^ a % 256 ^ 0 ≡ 0 = omega arith in
    let q : shown r y / 256 ^ a % 256 ^ 0 ≡ 0 = omega arith in
    rw (p, q) refl
equal_from r x y a (suc n) c hc hx hy =
    let s : ℕ = byte_at (shown r x) a in
    let t : ℕ = byte_at (shown r y) a in
    let p : ℕ = shown r x / 256 ^ (a + 1) % 256 ^ n in
    let q : ℕ = shown r y / 256 ^ (a + 1) % 256 ^ n in
    let d : ℕ = cond (nat_eq s t) c 0 in
    let x_is : looked_up 102 (wire_byte r (byte x a)) (wire_byte r (byte y a)) 0 ≡ bit_xor s t = byte_xor (wire_byte r (byte x a)) (wire_byte r (byte y a)) (hx.at a) (hy.at a) ∙ ap₂ bit_xor (byte_is r x a hx) (byte_is r y a hy) in
    let one : cell_carry r (chained (equal_cell x y a)) c ≡ d = ap (λ (k : ℕ). one_if (c == 1 && k == 0)) x_is ∙ equal_step s t c hc in
    let ih = equal_from r x y (a + 1) n d (less (nat_eq s t) c hc) hx hy in
    ap (carry_after r (map chained (map (equal_cell x y) (range_with_len (a + 1) n)))) one ∙ ih
    ∙ both s t p q c (omega arith) (omega arith) ∙ ap₂ (λ (i j : ℕ). cond (nat_eq i j) c 0) (sym (two_parts (shown r x) a n)) (sym (two_parts (shown r y) a n))
  where
    less : (b : Bool) (c : ℕ) → c ≤ 1 → cond b c 0 ≤ 1
    less true c h = h
    less false c h = omega arith

    both : (a b n m c : ℕ) → a < 256 → b < 256 → cond (nat_eq n m) (cond (nat_eq a b) c 0) 0 ≡ cond (nat_eq (a + 256 * n) (b + 256 * m)) c 0
    both a b n m c ha hb = grind arith

-- Equal and NotEqual of numbers of n bytes
pub equal_shows : (r : Reading) (u n : ℕ) (x y : List Slice) → 1 ≤ n → AreBytes r → Bytes r x → Bytes r y → shown r x < 256 ^ n → shown r y < 256 ^ n
    → (Has r u (closed_chain Carry.One 240 (each n (equal_cell x y)) u).units → shown r (closed_chain Carry.One 240 (each n (equal_cell x y)) u).slices ≡ bit (nat_eq (shown r x) (shown r y)))
    × (Has r u (closed_chain Carry.One 15 (each n (equal_cell x y)) u).units → shown r (closed_chain Carry.One 15 (each n (equal_cell x y)) u).slices ≡ bit (not (nat_eq (shown r x) (shown r y))))
equal_shows r u n x y some b hx hy lx ly =
    let f : ℕ → Cell = equal_cell x y in
    let t = suits_from r x f 0 n hx (λ i. refl) (λ i. steady_xor) (λ i. refl) in
    let c : ℕ = carry_after r (map chained (each n f)) 1 in
    let small : c ≤ 1 = after_small r (map chained (each n f)) 1 b (read_from r x f 0 n hx (λ i. refl)) (omega arith) in
    let is : c ≡ bit (nat_eq (shown r x) (shown r y)) = equal_from r x y 0 n 1 (omega arith) hx hy ∙ ap₂ (λ (i j : ℕ). cond (nat_eq i j) 1 0) (whole (shown r x) lx) (whole (shown r y) ly) in
    let s = closing_shows r c small in (
      λ h. some_cells r u n Carry.One 240 f some b t h ∙ s.0 ∙ is,
      λ h. some_cells r u n Carry.One 15 f some b t h ∙ s.1 ∙ ap (λ (k : ℕ). 1 - k) is ∙ other (nat_eq (shown r x) (shown r y)),
    )
  where
    other : (b : Bool) → 1 - bit b ≡ bit (not b)
    other true = refl
    other false = refl

    whole : (v : ℕ) → v < 256 ^ n → v / 256 ^ 0 % 256 ^ n ≡ v
    whole v l = let one : v / 256 ^ 0 ≡ v = omega arith in ap (λ (k : ℕ). k % 256 ^ n) one ∙ mod-eq_of_lt l
