-- The bytes of shifted numbers: what B is where a cell reads a value shifted to one side.
use Rattle.std.proofs.Common.{ℕ, zero, suc, ◌≡◌, ◌+◌, ◌*◌, ◌/◌, ◌%◌, ◌^◌, ◌-◌, ◌<◌, ◌≤◌, ◌==◌, Bool, false, List, bit_or, subst, ap, ap₂, sym, ◌∙◌, inl, inr, pow-add, arith}
use Rattle.std.specs.Bool.{if◌then◌else◌}
use Rattle.std.specs.Int.Bits.{and_shifted}
use Rattle.std.proofs.Math.Nat.{mod-add-div, div-div-eq-div-mul, mul-add-div, add-mul-mod_self_left, div-eq_of_lt, div-lt_iff_lt-mul}
use Rattle.std.proofs.lemmas.Nat.{pow_pos, or_shr, or_mod, or_disjoint}
use Rattle.std.proofs.lemmas.Bool.{cases_lt, lt-ltb, le-ltb, ne_eqb}
use Rattle.pr_base.specs.Numbers.{byte_at}
use Rattle.pr_base.specs.Pe.{shifted}
use Rattle.pr_net.specs.declared.cells.Slice.{Slice}
use Rattle.pr_net.specs.declared.cells.Wire.{Wire}
use Rattle.pr_net.specs.declared.cells.Cell.{Cell}
use Rattle.pr_net.specs.Shape.{wire_of}
use Rattle.pr_net.specs.Reading.{Reading, wire_byte, shown}
use Rattle.pr_cut_units.specs.Cells.{slice_at, byte, byte_below, with_left, with_right}
use Rattle.pr_cut_units.proofs.AddMeaning.{Bytes}
use Rattle.pr_cut_laws.proofs.Digits.{bytes_pow, more_bytes, big_pos, byte_whole, next_byte}
use Rattle.pr_cut_laws.proofs.Shown.{byte_is}

-- 256 in two parts
pub parts : (k : ℕ) → k ≤ 8 → 2 ^ k * 2 ^ (8 - k) ≡ 256
parts k h =
    let e : k + (8 - k) ≡ 8 = omega arith in
    sym (pow-add 2 k (8 - k)) ∙ ap (λ (n : ℕ). 2 ^ n) e

low_small : (lo k : ℕ) → k ≤ 8 → lo < 256 → lo / 2 ^ (8 - k) < 2 ^ k
low_small lo k h l = (div-lt_iff_lt-mul {k = 2 ^ (8 - k)} {x = lo} {y = 2 ^ k} (pow_pos (8 - k))).1 (subst (λ (m : ℕ). lo < m) (sym (parts k h)) l)

pub nonzero : (s : ℕ) → (suc s == 0) ≡ false
nonzero s = ne_eqb (suc s) 0 (λ e. absurd (omega (arith, e)))

-- B as a sum
b_is : (hi lo s : ℕ) → suc s ≤ 8 → lo < 256 → shifted hi lo (suc s) ≡ (hi * 2 ^ suc s + lo / 2 ^ (8 - suc s)) % 256
b_is hi lo s h l = ap (λ (t : Bool). if t then hi else bit_or (hi * 2 ^ suc s) (lo / 2 ^ (8 - suc s)) % 256) (nonzero s) ∙ ap (λ (n : ℕ). n % 256) (or_disjoint (hi * 2 ^ suc s) (lo / 2 ^ (8 - suc s)) (and_shifted hi (suc s) (lo / 2 ^ (8 - suc s)) (low_small lo (suc s) h l)))

-- quotients in either order
pub turned : (x a b c d : ℕ) → a * b ≡ c * d → x / a / b ≡ x / c / d
turned x a b c d e = div-div-eq-div-mul x a b ∙ ap (λ (k : ℕ). x / k) e ∙ sym (div-div-eq-div-mul x c d)

-- B from two bytes of a number that stand side by side
pair_byte : (w s : ℕ) → suc s < 8 → shifted (w / 256 % 256) (w % 256) (suc s) ≡ w / 2 ^ (8 - suc s) % 256
pair_byte w s h =
    let k : ℕ = suc s in
    let p : ℕ = 2 ^ (8 - k) in
    let q : ℕ = 2 ^ k in
    let pq : p * q ≡ 256 = omega (arith, parts k (omega arith)) in
    let low : w % 256 < 256 = omega arith in
    let b : shifted (w / 256 % 256) (w % 256) (suc s) ≡ (w / 256 % 256 * q + w % 256 / p) % 256 = b_is (w / 256 % 256) (w % 256) s (omega arith) low in
    let t : ℕ = w / 256 / 256 in
    let up : w / 256 ≡ w / 256 % 256 + 256 * t = sym (mod-add-div (w / 256) 256) in
    let w_is : w ≡ p * (q * (w / 256)) + w % 256 = sym (mod-add-div w 256) ∙ omega (arith, ap (λ (m : ℕ). m * (w / 256)) pq) in
    let a : w / p ≡ q * (w / 256) + w % 256 / p = ap (λ (m : ℕ). m / p) w_is ∙ mul-add-div {m = p} (pow_pos (8 - k)) (q * (w / 256)) (w % 256) in
    let qt : q * (w / 256) ≡ w / 256 % 256 * q + 256 * (t * q) = ap (λ (m : ℕ). q * m) up ∙ omega arith in
    b ∙ sym (add-mul-mod_self_left (w / 256 % 256 * q + w % 256 / p) 256 (t * q)) ∙ ap (λ (m : ℕ). m % 256) (omega (arith, a, qt))

-- whole bytes to the left
pub byte_under : (x q i : ℕ) → i < q → byte_at (x * 256 ^ q) i ≡ 0
byte_under x q i h =
    let e : i + suc (q - i - 1) ≡ q = omega arith in
    let p : 256 ^ q ≡ 256 ^ i * 256 ^ suc (q - i - 1) = ap (λ (k : ℕ). 256 ^ k) (sym e) ∙ pow-add 256 i (suc (q - i - 1)) in
    let y : ℕ = 256 ^ (q - i - 1) in
    let m : 256 ^ suc (q - i - 1) ≡ 256 * y = more_bytes (q - i - 1) in
    let w : x * 256 ^ q ≡ 256 ^ i * (256 * (x * y)) + 0 = ap (λ (k : ℕ). x * k) (p ∙ ap (λ (k : ℕ). 256 ^ i * k) m) ∙ omega arith in
    let d : x * 256 ^ q / 256 ^ i ≡ 256 * (x * y) + 0 / 256 ^ i = ap (λ (k : ℕ). k / 256 ^ i) w ∙ mul-add-div {m = 256 ^ i} (big_pos i) (256 * (x * y)) 0 in
    let z : 0 / 256 ^ i ≡ 0 = div-eq_of_lt (big_pos i) in
    let f : x * 256 ^ q / 256 ^ i ≡ 256 * (x * y) = omega (arith, d, z) in
    ap (λ (k : ℕ). k % 256) f ∙ omega arith

pub times_over : (x m : ℕ) → 0 < m → x * m / m ≡ x
times_over x m h =
    let w : x * m ≡ m * x + 0 = omega arith in
    let z : 0 / m ≡ 0 = div-eq_of_lt h in
    let d : x * m / m ≡ x + 0 / m = ap (λ (k : ℕ). k / m) w ∙ mul-add-div {m = m} h x 0 in
    omega (arith, d, z)

pub byte_over : (x q i : ℕ) → q ≤ i → byte_at (x * 256 ^ q) i ≡ byte_at x (i - q)
byte_over x q i h =
    let e : q + (i - q) ≡ i = omega arith in
    let p : 256 ^ i ≡ 256 ^ q * 256 ^ (i - q) = ap (λ (k : ℕ). 256 ^ k) (sym e) ∙ pow-add 256 q (i - q) in
    ap (λ (k : ℕ). x * 256 ^ q / k % 256) p ∙ ap (λ (k : ℕ). k % 256) (sym (div-div-eq-div-mul (x * 256 ^ q) (256 ^ q) (256 ^ (i - q)))) ∙ ap (λ (k : ℕ). k / 256 ^ (i - q) % 256) (times_over x (256 ^ q) (big_pos q))

-- byte i - q of a value is byte i of the number moved up by q bytes
pub below_is : (r : Reading) (x : List Slice) (q i : ℕ) → Bytes r x → wire_byte r (byte_below x i q) ≡ byte_at (shown r x * 256 ^ q) i
below_is r x q i h = elim (cases_lt i q) [
  | inl l ↦ ap (λ (t : Bool). wire_byte r (wire_of (if t then Slice.Const 0 else slice_at x (i - q)))) (lt-ltb i q l) ∙ sym (byte_under (shown r x) q i l)
  | inr g ↦ ap (λ (t : Bool). wire_byte r (wire_of (if t then Slice.Const 0 else slice_at x (i - q)))) (le-ltb i q g) ∙ byte_is r x (i - q) h ∙ sym (byte_over (shown r x) q i g)
]

left_by : (r : Reading) (x : List Slice) (q s i : ℕ) → s < 8 → Bytes r x → shifted (wire_byte r (byte_below x i q)) (wire_byte r (if s == 0 then Wire.Const 0 else byte_below x i (q + 1))) s ≡ byte_at (shown r x * 256 ^ q * 2 ^ s) i
left_by r x q zero i hs h =
    let e : shown r x * 256 ^ q ≡ shown r x * 256 ^ q * 2 ^ 0 = omega arith in
    below_is r x q i h ∙ ap (λ (k : ℕ). byte_at k i) e
left_by r x q (suc s) i hs h =
    let y : ℕ = shown r x * 256 ^ q in
    let k : ℕ = suc s in
    let w : ℕ = y * 256 / 256 ^ i in
    let more : 256 ^ (q + 1) ≡ 256 ^ q * 256 = pow-add 256 q 1 ∙ omega arith in
    let lo_is : shown r x * 256 ^ (q + 1) ≡ y * 256 = ap (λ (m : ℕ). shown r x * m) more ∙ omega arith in
    let lo : wire_byte r (byte_below x i (q + 1)) ≡ w % 256 = below_is r x (q + 1) i h ∙ ap (λ (m : ℕ). byte_at m i) lo_is in
    let swap : 256 ^ i * 256 ≡ 256 * 256 ^ i = omega arith in
    let hi_is : w / 256 ≡ y / 256 ^ i = turned (y * 256) (256 ^ i) 256 256 (256 ^ i) swap ∙ ap (λ (m : ℕ). m / 256 ^ i) (times_over y 256 (omega arith)) in
    let hi : wire_byte r (byte_below x i q) ≡ w / 256 % 256 = below_is r x q i h ∙ ap (λ (m : ℕ). m % 256) (sym hi_is) in
    let p : ℕ = 2 ^ (8 - k) in
    let pq : 2 ^ k * p ≡ 256 = parts k (omega arith) in
    let swap' : 256 ^ i * p ≡ p * 256 ^ i = omega arith in
    let cut : y * 256 / p ≡ y * 2 ^ k = ap (λ (m : ℕ). y * m / p) (sym pq) ∙ ap (λ (m : ℕ). m / p) (assoc y (2 ^ k) p) ∙ times_over (y * 2 ^ k) p (pow_pos (8 - k)) in
    let res : w / p ≡ y * 2 ^ k / 256 ^ i = turned (y * 256) (256 ^ i) p p (256 ^ i) swap' ∙ ap (λ (m : ℕ). m / 256 ^ i) cut in
    ap (λ (t : Bool). shifted (wire_byte r (byte_below x i q)) (wire_byte r (if t then Wire.Const 0 else byte_below x i (q + 1))) (suc s)) (nonzero s) ∙ ap₂ (λ (a b : ℕ). shifted a b (suc s)) hi lo ∙ pair_byte w s hs ∙ ap (λ (m : ℕ). m % 256) res
  where
    assoc : (a b c : ℕ) → a * (b * c) ≡ a * b * c
    assoc a b c = omega arith

-- B of a cell
abbrev pub b_byte : Reading → Cell → ℕ
b_byte r k = shifted (wire_byte r k.hi) (wire_byte r k.lo) k.shift

-- F: byte i of the number times 2^k
pub left_is : (r : Reading) (x : List Slice) (k i : ℕ) (cell : Cell) → Bytes r x → b_byte r (with_left x k i cell) ≡ byte_at (shown r x * 2 ^ k) i
left_is r x k i cell h =
    let e : 8 * (k / 8) + k % 8 ≡ k = omega arith in
    let p : 256 ^ (k / 8) * 2 ^ (k % 8) ≡ 2 ^ k = ap (λ (m : ℕ). m * 2 ^ (k % 8)) (bytes_pow (k / 8)) ∙ sym (pow-add 2 (8 * (k / 8)) (k % 8)) ∙ ap (λ (m : ℕ). 2 ^ m) e in
    let a : shown r x * 256 ^ (k / 8) * 2 ^ (k % 8) ≡ shown r x * (256 ^ (k / 8) * 2 ^ (k % 8)) = omega arith in
    left_by r x (k / 8) (k % 8) i (omega arith) h ∙ ap (λ (m : ℕ). byte_at m i) (a ∙ ap (λ (m : ℕ). shown r x * m) p)

right_by : (r : Reading) (x : List Slice) (q s i : ℕ) → s < 8 → Bytes r x → shifted (wire_byte r (if s == 0 then byte x (i + q) else byte x (i + q + 1))) (wire_byte r (if s == 0 then Wire.Const 0 else byte x (i + q))) (if s == 0 then 0 else 8 - s) ≡ byte_at (shown r x / 256 ^ q / 2 ^ s) i
right_by r x q zero i hs h =
    let e : shown r x / 256 ^ q ≡ shown r x / 256 ^ q / 2 ^ 0 = omega arith in
    byte_is r x (i + q) h ∙ byte_whole (shown r x) q i ∙ ap (λ (k : ℕ). byte_at k i) e
right_by r x q (suc s) i hs h =
    let y : ℕ = shown r x / 256 ^ q in
    let k : ℕ = suc s in
    let w : ℕ = y / 256 ^ i in
    let lo : wire_byte r (byte x (i + q)) ≡ w % 256 = byte_is r x (i + q) h ∙ byte_whole (shown r x) q i in
    let i1 : i + q + 1 ≡ (i + 1) + q = omega arith in
    let hi : wire_byte r (byte x (i + q + 1)) ≡ w / 256 % 256 = byte_is r x (i + q + 1) h ∙ ap (byte_at (shown r x)) i1 ∙ byte_whole (shown r x) q (i + 1) ∙ ap (λ (m : ℕ). m % 256) (next_byte y i) in
    let t : 8 - suc s ≡ suc (6 - s) = omega arith in
    let t8 : 8 - suc (6 - s) ≡ k = omega arith in
    let swap : 256 ^ i * 2 ^ k ≡ 2 ^ k * 256 ^ i = omega arith in
    ap (λ (z : Bool). shifted (wire_byte r (if z then byte x (i + q) else byte x (i + q + 1))) (wire_byte r (if z then Wire.Const 0 else byte x (i + q))) (if z then 0 else 8 - suc s)) (nonzero s) ∙ ap₂ (λ (a b : ℕ). shifted a b (8 - suc s)) hi lo ∙ ap (shifted (w / 256 % 256) (w % 256)) t ∙ pair_byte w (6 - s) (omega arith) ∙ ap (λ (m : ℕ). w / 2 ^ m % 256) t8 ∙ ap (λ (m : ℕ). m % 256) (turned y (256 ^ i) (2 ^ k) (2 ^ k) (256 ^ i) swap)

-- G: byte i of the number divided by 2^k
pub right_is : (r : Reading) (x : List Slice) (k i : ℕ) (cell : Cell) → Bytes r x → b_byte r (with_right x k i cell) ≡ byte_at (shown r x / 2 ^ k) i
right_is r x k i cell h =
    let e : 8 * (k / 8) + k % 8 ≡ k = omega arith in
    let p : 256 ^ (k / 8) * 2 ^ (k % 8) ≡ 2 ^ k = ap (λ (m : ℕ). m * 2 ^ (k % 8)) (bytes_pow (k / 8)) ∙ sym (pow-add 2 (8 * (k / 8)) (k % 8)) ∙ ap (λ (m : ℕ). 2 ^ m) e in
    right_by r x (k / 8) (k % 8) i (omega arith) h ∙ ap (λ (m : ℕ). byte_at m i) (div-div-eq-div-mul (shown r x) (256 ^ (k / 8)) (2 ^ (k % 8)) ∙ ap (λ (m : ℕ). shown r x / m) p)

-- bytes of a number joined above another
pub byte_or : (x y i : ℕ) → byte_at (bit_or x y) i ≡ bit_or (byte_at x i) (byte_at y i)
byte_or x y i =
    ap (λ (k : ℕ). bit_or x y / k % 256) (bytes_pow i) ∙ ap (λ (k : ℕ). k % 256) (or_shr x y (8 * i)) ∙ or_mod (x / 2 ^ (8 * i)) (y / 2 ^ (8 * i)) 8 ∙ ap (λ (k : ℕ). bit_or (x / k % 256) (y / k % 256)) (sym (bytes_pow i))

pub byte_low : (a b q i : ℕ) → i < q → byte_at (a * 256 ^ q + b) i ≡ byte_at b i
byte_low a b q i h =
    let e : i + suc (q - i - 1) ≡ q = omega arith in
    let y : ℕ = 256 ^ (q - i - 1) in
    let p : 256 ^ q ≡ 256 ^ i * (256 * y) = ap (λ (k : ℕ). 256 ^ k) (sym e) ∙ pow-add 256 i (suc (q - i - 1)) ∙ ap (λ (k : ℕ). 256 ^ i * k) (more_bytes (q - i - 1)) in
    let w : a * 256 ^ q + b ≡ 256 ^ i * (256 * (a * y)) + b = ap (λ (k : ℕ). a * k + b) p ∙ omega arith in
    let d : (a * 256 ^ q + b) / 256 ^ i ≡ 256 * (a * y) + b / 256 ^ i = ap (λ (k : ℕ). k / 256 ^ i) w ∙ mul-add-div {m = 256 ^ i} (big_pos i) (256 * (a * y)) b in
    ap (λ (k : ℕ). k % 256) d ∙ omega arith

pub byte_high : (a b q i : ℕ) → b < 256 ^ q → q ≤ i → byte_at (a * 256 ^ q + b) i ≡ byte_at a (i - q)
byte_high a b q i hb h =
    let e : q + (i - q) ≡ i = omega arith in
    let p : 256 ^ i ≡ 256 ^ q * 256 ^ (i - q) = ap (λ (k : ℕ). 256 ^ k) (sym e) ∙ pow-add 256 q (i - q) in
    let w : a * 256 ^ q + b ≡ 256 ^ q * a + b = omega arith in
    let z : b / 256 ^ q ≡ 0 = div-eq_of_lt hb in
    let d : (a * 256 ^ q + b) / 256 ^ q ≡ a + b / 256 ^ q = ap (λ (k : ℕ). k / 256 ^ q) w ∙ mul-add-div {m = 256 ^ q} (big_pos q) a b in
    ap (λ (k : ℕ). (a * 256 ^ q + b) / k % 256) p ∙ ap (λ (k : ℕ). k % 256) (sym (div-div-eq-div-mul (a * 256 ^ q + b) (256 ^ q) (256 ^ (i - q)))) ∙ ap (λ (k : ℕ). k / 256 ^ (i - q) % 256) (omega (arith, d, z))
