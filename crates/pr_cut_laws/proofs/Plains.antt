-- Units that work bit by bit.
use Rattle.std.proofs.Common.{ℕ, ◌≡◌, ◌+◌, ◌*◌, ◌/◌, ◌%◌, ◌^◌, ◌-◌, ◌<◌, ◌≤◌, cond, nat_eq, List, bit_and, bit_or, bit_xor, ap, ap₂, sym, subst, ◌∙◌, inl, inr, ◌⊎◌, pow-add, arith}
use Rattle.std.specs.Int.{bit_at}
use Rattle.std.proofs.Math.Nat.{mod-lt, mod-eq_of_lt, mod-add-div, div-lt_iff_lt-mul, add-mul-mod_self_left, mul-add-div, div-eq_of_lt}
use Rattle.std.proofs.lemmas.Nat.{pow_pos, and_shr, xor_shr, and_mod, or_mod, xor_mod, field_of}
use Rattle.pr_base.specs.Numbers.{byte_at, slices_of}
use Rattle.pr_base.specs.Pe.{looked_up}
use Rattle.pr_net.specs.declared.cells.Slice.{Slice}
use Rattle.pr_net.specs.declared.cells.Cell.{Cell}
use Rattle.pr_net.specs.Reading.{Reading, wire_byte, Has, shown}
use Rattle.pr_cut_units.specs.Cells.{plain, byte, bit_of, top, table_and, table_or, table_xor}
use Rattle.pr_cut_units.specs.Operators.{bitwise, inverted, chosen}
use Rattle.pr_cut_units.proofs.AddMeaning.{Bytes}
use Rattle.pr_cut_units.proofs.Tables.{byte_and, byte_or as table_or_is, byte_xor as table_xor_is, byte_not_a, byte_a_where_1, byte_b_where_0}
use Rattle.pr_cut_laws.proofs.Digits.{bytes_pow, narrow}
use Rattle.pr_cut_laws.proofs.Shown.{byte_is, bit_is, unit_shows}
use Rattle.pr_cut_laws.proofs.Moved.{byte_or}

pub byte_of_and : (x y i : ℕ) → byte_at (bit_and x y) i ≡ bit_and (byte_at x i) (byte_at y i)
byte_of_and x y i =
    ap (λ (k : ℕ). bit_and x y / k % 256) (bytes_pow i) ∙ ap (λ (k : ℕ). k % 256) (and_shr x y (8 * i)) ∙ and_mod (x / 2 ^ (8 * i)) (y / 2 ^ (8 * i)) 8 ∙ ap (λ (k : ℕ). bit_and (x / k % 256) (y / k % 256)) (sym (bytes_pow i))

pub byte_of_xor : (x y i : ℕ) → byte_at (bit_xor x y) i ≡ bit_xor (byte_at x i) (byte_at y i)
byte_of_xor x y i =
    ap (λ (k : ℕ). bit_xor x y / k % 256) (bytes_pow i) ∙ ap (λ (k : ℕ). k % 256) (xor_shr x y (8 * i)) ∙ xor_mod (x / 2 ^ (8 * i)) (y / 2 ^ (8 * i)) 8 ∙ ap (λ (k : ℕ). bit_xor (x / k % 256) (y / k % 256)) (sym (bytes_pow i))

-- a table that answers an operation on numbers, byte by byte
pub record Answers (table : ℕ) (g : ℕ → ℕ → ℕ) : Type 0 where
  pub byte : (a b : ℕ) → a < 256 → b < 256 → looked_up table a b 0 ≡ g a b
  pub at : (x y i : ℕ) → byte_at (g x y) i ≡ g (byte_at x i) (byte_at y i)
  pub cut : (x y k : ℕ) → g x y % 2 ^ k ≡ g (x % 2 ^ k) (y % 2 ^ k)

pub and_answers : Answers table_and bit_and
and_answers = record { byte = byte_and; at = byte_of_and; cut = and_mod }

pub or_answers : Answers table_or bit_or
or_answers = record { byte = table_or_is; at = byte_or; cut = or_mod }

pub xor_answers : Answers table_xor bit_xor
xor_answers = record { byte = table_xor_is; at = byte_of_xor; cut = xor_mod }

pub bitwise_shows : (r : Reading) (u e table : ℕ) (g : ℕ → ℕ → ℕ) (x y : List Slice) → 1 ≤ e → Answers table g → Bytes r x → Bytes r y → Has r u (bitwise e table x y u).units → shown r (bitwise e table x y u).slices ≡ g (shown r x) (shown r y) % 2 ^ e
bitwise_shows r u e table g x y some t hx hy h =
    unit_shows r u e (g (shown r x) (shown r y)) (λ i. record plain { a = byte x i; hi = byte y i; table = table; mask = top e i }) some h
    (λ i d l. ap (λ (n : ℕ). bit_and n (top e i)) (t.byte (wire_byte r (byte x i)) (wire_byte r (byte y i)) (hx.at i) (hy.at i) ∙ ap₂ g (byte_is r x i hx) (byte_is r y i hy) ∙ sym (t.at (shown r x) (shown r y) i)))

-- ---- complements
split : (m q y : ℕ) → 0 < m → y < m * q → m * q - 1 - y ≡ m * (q - 1 - y / m) + (m - 1 - y % m)
split m q y hm h =
    let e : y % m + m * (y / m) ≡ y = mod-add-div y m in
    let l : y / m < q = (div-lt_iff_lt-mul {k = m} {x = y} {y = q} hm).1 (omega (arith, h)) in
    let k : ℕ = q - 1 - y / m in
    let d : q ≡ y / m + 1 + k = omega arith in
    let f : m * q ≡ m * (y / m) + m + m * k = ap (λ (t : ℕ). m * t) d ∙ omega arith in
    let g : y % m < m = mod-lt y hm in
    omega (arith, e, f, g)

pub complement_mod : (m q y : ℕ) → 0 < m → y < m * q → (m * q - 1 - y) % m ≡ m - 1 - y % m
complement_mod m q y hm h =
    let w : m * q - 1 - y ≡ (m - 1 - y % m) + m * (q - 1 - y / m) = omega (arith, split m q y hm h) in
    let g : y % m < m = mod-lt y hm in
    ap (λ (t : ℕ). t % m) w ∙ add-mul-mod_self_left (m - 1 - y % m) m (q - 1 - y / m) ∙ mod-eq_of_lt (omega (arith, g))

pub complement_div : (m q y : ℕ) → 0 < m → y < m * q → (m * q - 1 - y) / m ≡ q - 1 - y / m
complement_div m q y hm h =
    let g : y % m < m = mod-lt y hm in
    let z : (m - 1 - y % m) / m ≡ 0 = div-eq_of_lt (omega (arith, g)) in
    let d : (m * (q - 1 - y / m) + (m - 1 - y % m)) / m ≡ (q - 1 - y / m) + (m - 1 - y % m) / m = mul-add-div {m = m} hm (q - 1 - y / m) (m - 1 - y % m) in
    ap (λ (t : ℕ). t / m) (split m q y hm h) ∙ omega (arith, d, z)

-- the complement of n bytes of a number
abbrev pub turned_bytes : ℕ → ℕ → ℕ
turned_bytes n y = 2 ^ (8 * n) - 1 - y % 2 ^ (8 * n)

pub byte_turned : (n y i : ℕ) → i < n → 255 - byte_at y i ≡ byte_at (turned_bytes n y) i
byte_turned n y i h =
    let m : ℕ = 2 ^ (8 * i) in
    let p : ℕ = 2 ^ (8 * (n - i - 1)) in
    let s : 2 ^ (8 * n) ≡ m * (256 * p) = ap (λ (k : ℕ). 2 ^ k) (omega arith) ∙ pow-add 2 (8 * i) (8 + 8 * (n - i - 1)) ∙ ap (λ (k : ℕ). m * k) (pow-add 2 8 (8 * (n - i - 1))) in
    let z : ℕ = y % 2 ^ (8 * n) in
    let l : z < m * (256 * p) = subst (λ (k : ℕ). z < k) s (mod-lt y (pow_pos (8 * n))) in
    let q : z / m < 256 * p = (div-lt_iff_lt-mul {k = m} {x = z} {y = 256 * p} (pow_pos (8 * i))).1 (omega (arith, l)) in
    let o : (8 * n - 8 * i) + 8 * i ≡ 8 * n = omega arith in
    let f : z / m ≡ y / m % 2 ^ (8 * n - 8 * i) = ap (λ (k : ℕ). y % 2 ^ k / m) (sym o) ∙ field_of y (8 * n - 8 * i) (8 * i) in
    let b : z / m % 256 ≡ byte_at y i = ap (λ (k : ℕ). k % 256) f ∙ narrow (y / m) 8 (8 * n - 8 * i) (omega arith) ∙ ap (λ (k : ℕ). y / k % 256) (sym (bytes_pow i)) in
    sym (ap (λ (k : ℕ). turned_bytes n y / k % 256) (bytes_pow i) ∙ ap (λ (k : ℕ). (k - 1 - z) / m % 256) s ∙ ap (λ (k : ℕ). k % 256) (complement_div m (256 * p) z (pow_pos (8 * i)) l) ∙ complement_mod 256 p (z / m) (omega arith) q ∙ ap (λ (k : ℕ). 255 - k) b)

pub turned_low : (n y e : ℕ) → e ≤ 8 * n → turned_bytes n y % 2 ^ e ≡ 2 ^ e - 1 - y % 2 ^ e
turned_low n y e h =
    let s : 2 ^ (8 * n) ≡ 2 ^ e * 2 ^ (8 * n - e) = ap (λ (k : ℕ). 2 ^ k) (omega arith) ∙ pow-add 2 e (8 * n - e) in
    let z : ℕ = y % 2 ^ (8 * n) in
    let l : z < 2 ^ e * 2 ^ (8 * n - e) = subst (λ (k : ℕ). z < k) s (mod-lt y (pow_pos (8 * n))) in
    ap (λ (k : ℕ). (k - 1 - z) % 2 ^ e) s ∙ complement_mod (2 ^ e) (2 ^ (8 * n - e)) z (pow_pos e) l ∙ ap (λ (k : ℕ). 2 ^ e - 1 - k) (narrow y e (8 * n) h)

pub inverted_shows : (r : Reading) (u e : ℕ) (x : List Slice) → 1 ≤ e → Bytes r x → Has r u (inverted e x u).units → shown r (inverted e x u).slices ≡ 2 ^ e - 1 - shown r x % 2 ^ e
inverted_shows r u e x some hx h =
    unit_shows r u e (turned_bytes (slices_of e) (shown r x)) (λ i. record plain { a = byte x i; table = 85; mask = top e i }) some h
    (λ i d l. ap (λ (n : ℕ). bit_and n (top e i)) (byte_not_a (wire_byte r (byte x i)) 0 0 (hx.at i) (omega arith) ∙ ap (λ (n : ℕ). 255 - n) (byte_is r x i hx) ∙ byte_turned (slices_of e) (shown r x) i l))
    ∙ turned_low (slices_of e) (shown r x) e (omega arith)

-- ---- a choice by a bit
two_bits : (n : ℕ) → (bit_at n 0 ≡ 0) ⊎ (bit_at n 0 ≡ 1)
two_bits n = grind arith

pub chosen_shows : (r : Reading) (u e : ℕ) (c x y : List Slice) → 1 ≤ e → Bytes r c → Bytes r x → Bytes r y → Has r u (chosen e c x y u).units → shown r (chosen e c x y u).slices ≡ cond (nat_eq (bit_at (shown r c) 0) 1) (shown r x) (shown r y) % 2 ^ e
chosen_shows r u e c x y some hc hx hy h = elim (two_bits (shown r c)) [
  | inl z ↦ rw z (unit_shows r u e (shown r y) (cell) some h (λ i d l. ap (λ (n : ℕ). bit_and n (top e i)) (ap (looked_up 172 (wire_byte r (byte x i)) (wire_byte r (byte y i))) (bit ∙ z) ∙ byte_b_where_0 (wire_byte r (byte x i)) (wire_byte r (byte y i)) (hy.at i) ∙ byte_is r y i hy)))
  | inr o ↦ rw o (unit_shows r u e (shown r x) (cell) some h (λ i d l. ap (λ (n : ℕ). bit_and n (top e i)) (ap (looked_up 172 (wire_byte r (byte x i)) (wire_byte r (byte y i))) (bit ∙ o) ∙ byte_a_where_1 (wire_byte r (byte x i)) (wire_byte r (byte y i)) (hx.at i) ∙ byte_is r x i hx)))
]
  where
    cell : ℕ → Cell
    cell = λ i. record plain { a = byte x i; hi = byte y i; c = bit_of c 0; table = 172; mask = top e i }

    bit : bit_at (wire_byte r (byte c 0)) 0 ≡ bit_at (shown r c) 0
    bit = bit_is r c 0 hc
