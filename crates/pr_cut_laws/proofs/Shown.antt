-- What slices show: values by their bytes, and units whose cells show the bytes of a number.
use Rattle.std.proofs.Common.{ℕ, zero, suc, ◌≡◌, ◌+◌, ◌*◌, ◌/◌, ◌%◌, ◌^◌, ◌<◌, ◌≤◌, List, [], ◌∷◌, map, get_or, bit_and, refl, ap, ap₂, sym, ◌∙◌, arith}
use Rattle.std.specs.List.{range_with_len}
use Rattle.std.specs.Int.{bit_at}
use Rattle.std.proofs.Math.Nat.{mod-eq_of_lt, mod-lt, pow-le-pow_right}
use Rattle.std.proofs.lemmas.Nat.{pow_pos}
use Rattle.pr_base.specs.Numbers.{byte_at, slices_of}
use Rattle.pr_net.specs.declared.cells.Slice.{Slice}
use Rattle.pr_net.specs.declared.cells.Wire.{Wire}
use Rattle.pr_net.specs.declared.cells.Cell.{Cell}
use Rattle.pr_net.specs.Reading.{Reading, wire_byte, slice_byte, bytes_shown, cell_byte, cell_carry, outs, Has, shown}
use Rattle.pr_net.specs.Runs.{AreBytes}
use Rattle.pr_net.proofs.RunsLemmas.{wire_small}
use Rattle.pr_cut_units.specs.Cells.{byte, top}
use Rattle.pr_cut_units.specs.Parts.{each, one_unit}
use Rattle.pr_cut_units.proofs.Operands.{AreOperands, operand_at, operands-each}
use Rattle.pr_cut_units.proofs.AddMeaning.{Bytes}
use Rattle.pr_cut_units.proofs.Sums.{mod_scaled}
use Rattle.pr_cut_laws.proofs.Digits.{AllSmall, byte_of_number, bytes_pow, big_pos, more_bytes, masked, bit_of_byte, next_byte}

-- operands of units show bytes
pub operand_bytes : (r : Reading) (v : ℕ) (x : List Slice) → AreBytes r → AreOperands v x → Bytes r x
operand_bytes r v x b h = record { at = λ i. wire_small r b (byte x i) (operand_at v x i h).byte; field = λ i. (operand_at v x i h).byte }

pub bytes_tail : (r : Reading) (s : Slice) (x : List Slice) → Bytes r (s ∷ x) → Bytes r x
bytes_tail r s x h = record { at = λ i. h.at (suc i); field = λ i. h.field (suc i) }

all_small : (r : Reading) (x : List Slice) → Bytes r x → AllSmall (bytes_shown r x)
all_small r [] h = tt
all_small r (s ∷ x) h = (h.at 0, all_small r x (bytes_tail r s x h))

byte_shown : (r : Reading) (x : List Slice) (i : ℕ) → wire_byte r (byte x i) ≡ get_or (bytes_shown r x) i 0
byte_shown r [] i = refl
byte_shown r (s ∷ x) zero = refl
byte_shown r (s ∷ x) (suc i) = byte_shown r x i

-- byte i of a value, also above its slices
pub byte_is : (r : Reading) (x : List Slice) (i : ℕ) → Bytes r x → wire_byte r (byte x i) ≡ byte_at (shown r x) i
byte_is r x i h = byte_shown r x i ∙ byte_of_number (bytes_shown r x) i (all_small r x h)

-- bit k of a value
pub bit_is : (r : Reading) (x : List Slice) (k : ℕ) → Bytes r x → bit_at (wire_byte r (byte x (k / 8))) (k % 8) ≡ bit_at (shown r x) k
bit_is r x k h =
    let e : 8 * (k / 8) + k % 8 ≡ k = omega arith in
    ap (λ (n : ℕ). bit_at n (k % 8)) (byte_is r x (k / 8) h) ∙ bit_of_byte (shown r x) (k / 8) (k % 8) (omega arith) ∙ ap (bit_at (shown r x)) e

-- slices that show the bytes of a number from place a on
pub shown_from : (r : Reading) (f : ℕ → Slice) (v a n : ℕ) → ((i : ℕ) → a ≤ i → i < a + n → slice_byte r (f i) ≡ byte_at v i) → shown r (map f (range_with_len a n)) ≡ v / 256 ^ a % 256 ^ n
shown_from r f v a zero h = omega arith
shown_from r f v a (suc n) h =
    let q : a + 1 ≡ 1 + a = omega arith in
    let x : ℕ = v / 256 ^ a in
    let up : v / 256 ^ (a + 1) ≡ x / 256 = next_byte v a in
    ap₂ (λ (b m : ℕ). b + 256 * m) (h a (omega arith) (omega arith)) (shown_from r f v (a + 1) n (λ i l g. h i (omega (arith, l)) (omega (arith, g))) ∙ ap (λ (k : ℕ). k % 256 ^ n) up)
    ∙ sym (mod_scaled (x % 256) 256 (x / 256) (256 ^ n) (omega arith) (big_pos n)) ∙ ap₂ (λ (b m : ℕ). b % m) (sym (whole x)) (sym (more_bytes n))
  where
    whole : (x : ℕ) → x ≡ x % 256 + 256 * (x / 256)
    whole x = omega arith

pub shown_each : (r : Reading) (f : ℕ → Slice) (v n : ℕ) → ((i : ℕ) → i < n → slice_byte r (f i) ≡ byte_at v i) → shown r (each n f) ≡ v % 256 ^ n
shown_each r f v n h =
    let one : v / 256 ^ 0 ≡ v = omega arith in
    shown_from r f v 0 n (λ i l g. h i (omega (arith, g))) ∙ ap (λ (k : ℕ). k % 256 ^ n) one

-- ---- one unit
unit_from : (r : Reading) (cell : ℕ → Cell) (x a n i c : ℕ) → i < n → ((d : ℕ) → cell_byte r (cell (a + i)) d ≡ x) → get_or (outs r (map cell (range_with_len a n)) c) i 0 ≡ x
unit_from r cell x a zero i c l h = absurd (omega arith)
unit_from r cell x a (suc n) zero c l h = ap (λ (k : ℕ). cell_byte r (cell k) c) (omega arith) ∙ h c
unit_from r cell x a (suc n) (suc i) c l h =
    let e : (a + 1) + i ≡ a + suc i = omega arith in
    unit_from r cell x (a + 1) n i (cell_carry r (cell a) c) (omega (arith, l)) (λ d. ap (λ (k : ℕ). cell_byte r (cell k) d) e ∙ h d)

-- a cell whose byte is the same whatever carry comes in
pub unit_byte : (r : Reading) (u n : ℕ) (cell : ℕ → Cell) (i x : ℕ) → Has r u (one_unit n cell u).units → i < n → ((d : ℕ) → cell_byte r (cell i) d ≡ x) → wire_byte r (Wire.Of u i) ≡ x
unit_byte r u n cell i x h l e = ap (λ (row : List ℕ). get_or row i 0) h.0 ∙ unit_from r cell x 0 n i 0 l (λ d. ap (λ (k : ℕ). cell_byte r (cell k) d) (omega arith) ∙ e d)

pub bytes_fit : (v e n : ℕ) → e ≤ 8 * n → v % 2 ^ e % 256 ^ n ≡ v % 2 ^ e
bytes_fit v e n h =
    let two : 0 < 2 = omega arith in
    let a : v % 2 ^ e < 2 ^ e = mod-lt v (pow_pos e) in
    let b : 2 ^ e ≤ 2 ^ (8 * n) = pow-le-pow_right two h in
    mod-eq_of_lt (omega (arith, a, b, bytes_pow n))

-- a unit whose cell at each place shows the byte of a number, masked
pub unit_shows : (r : Reading) (u e v : ℕ) (cell : ℕ → Cell) → 1 ≤ e → Has r u (one_unit (slices_of e) cell u).units → ((i d : ℕ) → i < slices_of e → cell_byte r (cell i) d ≡ bit_and (byte_at v i) (top e i)) → shown r (one_unit (slices_of e) cell u).slices ≡ v % 2 ^ e
unit_shows r u e v cell some h f =
    shown_each r (λ i. Slice.Of u i) (v % 2 ^ e) (slices_of e) (λ i l. unit_byte r u (slices_of e) cell i (byte_at (v % 2 ^ e) i) h l (λ d. f i d l ∙ masked v e i some l))
    ∙ bytes_fit v e (slices_of e) (omega arith)

-- slices of a unit show bytes
pub unit_bytes : (r : Reading) (u n : ℕ) → AreBytes r → Bytes r (each n (λ i. Slice.Of u i))
unit_bytes r u n b = operand_bytes r (u + 1) (each n (λ i. Slice.Of u i)) b (operands-each (u + 1) n (λ i. Slice.Of u i) (λ i. record { before = omega arith; byte = tt }))
