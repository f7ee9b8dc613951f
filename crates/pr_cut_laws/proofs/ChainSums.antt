-- Chains: sums, differences, and the carries of comparisons.
use Rattle.std.proofs.Common.{ℕ, zero, suc, ◌≡◌, ◌+◌, ◌*◌, ◌/◌, ◌%◌, ◌^◌, ◌-◌, ◌<◌, ◌≤◌, List, [], map, bit_and, refl, ap, ap₂, sym, ◌∙◌, pow-add, arith}
use Rattle.std.specs.List.{range_with_len}
use Rattle.std.proofs.Math.Nat.{mod-lt, mod-eq_of_lt, add-mul-mod_self_left, add-mod}
use Rattle.std.proofs.lemmas.Nat.{pow_pos, and_mask}
use Rattle.pr_base.specs.Numbers.{byte_at, number_of, slices_of}
use Rattle.pr_base.specs.Pe.{looked_up}
use Rattle.pr_base.specs.declared.choices.Carry.{Carry}
use Rattle.pr_net.specs.declared.cells.Slice.{Slice}
use Rattle.pr_net.specs.declared.cells.WireBit.{WireBit}
use Rattle.pr_net.specs.declared.cells.Cell.{Cell}
use Rattle.pr_net.specs.Reading.{Reading, wire_byte, cell_byte, cell_carry, outs, Has, shown}
use Rattle.pr_net.specs.Runs.{AreBytes}
use Rattle.pr_cut_units.specs.declared.chains.Style.{Style}
use Rattle.pr_cut_units.specs.Cells.{byte, top}
use Rattle.pr_cut_units.specs.Parts.{each}
use Rattle.pr_cut_units.specs.Operators.{sum_cell, added, subtracted}
use Rattle.pr_cut_units.proofs.AddMeaning.{Bytes}
use Rattle.pr_cut_units.proofs.ChainMeaning.{Steady, AllSuit, chained, chain_shows}
use Rattle.pr_cut_units.proofs.Tables.{byte_b, byte_not_b, steady_b, steady_not_b}
use Rattle.pr_cut_units.proofs.Sums.{IsSum, mod_scaled, narrower}
use Rattle.pr_cut_laws.proofs.Digits.{next_byte, top_bits, top_last, top_other, top_few, bits_are}
use Rattle.pr_cut_laws.proofs.Shown.{byte_is}
use Rattle.pr_cut_laws.proofs.Plains.{turned_bytes, byte_turned, turned_low}

-- ---- sums
low_sum : (x y c j : ℕ) → j ≤ 8 → (x % 256 + y % 256 + c) % 2 ^ j ≡ (x + y + c) % 2 ^ j
low_sum x y c j h =
    let q : j + (8 - j) ≡ 8 = omega arith in
    let e : 2 ^ j * 2 ^ (8 - j) ≡ 256 = sym (pow-add 2 j (8 - j)) ∙ ap (λ (n : ℕ). 2 ^ n) q in
    let k : ℕ = x / 256 + y / 256 in
    let f : 2 ^ j * (2 ^ (8 - j) * k) ≡ 256 * k = assoc (2 ^ j) (2 ^ (8 - j)) k ∙ ap (λ (n : ℕ). n * k) e in
    let w : x + y + c ≡ (x % 256 + y % 256 + c) + 2 ^ j * (2 ^ (8 - j) * k) = omega (arith, f) in
    sym (ap (λ (n : ℕ). n % 2 ^ j) w ∙ add-mul-mod_self_left (x % 256 + y % 256 + c) (2 ^ j) (2 ^ (8 - j) * k))
  where
    assoc : (a b c : ℕ) → a * (b * c) ≡ a * b * c
    assoc a b c = omega arith

-- cells from place a on, each of which adds the bytes of two numbers
pub sums_from : (r : Reading) (f : ℕ → Cell) (e x y a n c : ℕ) → 1 ≤ e → a + suc n ≡ slices_of e → c ≤ 1 → ((i : ℕ) → i < slices_of e → IsSum r (chained (f i)) (byte_at x i) (byte_at y i) (top e i)) → number_of (outs r (map chained (map f (range_with_len a (suc n)))) c) ≡ (x / 256 ^ a + y / 256 ^ a + c) % 2 ^ (e - 8 * a)
sums_from r f e x y a zero c some long hc h =
    let l : a < slices_of e = omega (arith, long) in
    let k : IsSum r (chained (f a)) (byte_at x a) (byte_at y a) (top e a) = h a l in
    let j : ℕ = top_bits e in
    let s : ℕ = byte_at x a + byte_at y a + c in
    let m : bit_and (s % 256) (top e a) ≡ s % 2 ^ j = ap (bit_and (s % 256)) (top_last e a (omega (arith, long))) ∙ and_mask (s % 256) j ∙ narrower s j (top_few e) in
    let g : cell_byte r (chained (f a)) c + 256 * 0 ≡ cell_byte r (chained (f a)) c = omega arith in
    let w : j ≡ e - 8 * a = omega (arith, bits_are e a some (omega (arith, long))) in
    g ∙ k.byte c ∙ m ∙ low_sum (x / 256 ^ a) (y / 256 ^ a) c j (top_few e) ∙ ap (λ (i : ℕ). (x / 256 ^ a + y / 256 ^ a + c) % 2 ^ i) w
sums_from r f e x y a (suc n) c some long hc h =
    let l : a < slices_of e = omega (arith, long) in
    let k : IsSum r (chained (f a)) (byte_at x a) (byte_at y a) (top e a) = h a l in
    let s : ℕ = byte_at x a + byte_at y a + c in
    let one : s / 256 ≤ 1 = omega (arith, hc) in
    let b : cell_byte r (chained (f a)) c ≡ s % 256 = k.byte c ∙ ap (bit_and (s % 256)) (top_other e a (omega (arith, long))) ∙ and_mask (s % 256) 8 ∙ mod-eq_of_lt (omega arith) in
    let x' : ℕ = x / 256 ^ (a + 1) in
    let y' : ℕ = y / 256 ^ (a + 1) in
    let n' : ℕ = x' + y' + s / 256 in
    let m : ℕ = 2 ^ (e - 8 * (a + 1)) in
    let ih : number_of (outs r (map chained (map f (range_with_len (a + 1) (suc n)))) (s / 256)) ≡ n' % m = sums_from r f e x y (a + 1) n (s / 256) some (omega (arith, long)) one h in
    let tail : number_of (outs r (map chained (map f (range_with_len (a + 1) (suc n)))) (cell_carry r (chained (f a)) c)) ≡ n' % m = ap (λ (d : ℕ). number_of (outs r (map chained (map f (range_with_len (a + 1) (suc n)))) d)) (k.carry c) ∙ ih in
    let whole : s % 256 + 256 * n' ≡ x / 256 ^ a + y / 256 ^ a + c = omega (arith, next_byte x a, next_byte y a) in
    let p : 256 * m ≡ 2 ^ (e - 8 * a) = sym (pow-add 2 8 (e - 8 * (a + 1))) ∙ ap (λ (i : ℕ). 2 ^ i) (omega (arith, long)) in
    ap₂ (λ (i j : ℕ). i + 256 * j) b tail ∙ sym (mod_scaled (s % 256) 256 n' m (omega arith) (pow_pos (e - 8 * (a + 1)))) ∙ ap₂ (λ (i j : ℕ). i % j) whole p

-- all cells of e bits
pub sums_shown : (r : Reading) (f : ℕ → Cell) (e x y c : ℕ) → 1 ≤ e → c ≤ 1 → ((i : ℕ) → i < slices_of e → IsSum r (chained (f i)) (byte_at x i) (byte_at y i) (top e i)) → number_of (outs r (map chained (each (slices_of e) f)) c) ≡ (x + y + c) % 2 ^ e
sums_shown r f e x y c some hc h =
    let n : ℕ = slices_of e - 1 in
    let s : slices_of e ≡ suc n = omega arith in
    ap (λ (k : ℕ). number_of (outs r (map chained (map f (range_with_len 0 k))) c)) s ∙ sums_from r f e x y 0 n c some (omega (arith, s)) hc h ∙ ap₂ (λ (i j : ℕ). (i + j + c) % 2 ^ (e - 8 * 0)) (one x) (one y) ∙ ap (λ (i : ℕ). (x + y + c) % 2 ^ i) (omega arith)
  where
    one : (v : ℕ) → v / 256 ^ 0 ≡ v
    one v = omega arith

pub suits_from : (r : Reading) (x : List Slice) (f : ℕ → Cell) (a n : ℕ) → Bytes r x → ((i : ℕ) → (f i).c ≡ WireBit.None) → ((i : ℕ) → Steady (f i).table) → ((i : ℕ) → (f i).a ≡ byte x i) → AllSuit Style.ByBit (map f (range_with_len a n))
suits_from r x f a zero h c s k = tt
suits_from r x f a (suc n) h c s k = ((record { none = c a; steady = s a }, rw (k a) (h.field a)), suits_from r x f (a + 1) n h c s k)

-- a sum of e bits, of any two values
pub sum_shows : (r : Reading) (u e : ℕ) (x y : List Slice) → 1 ≤ e → AreBytes r → Bytes r x → Bytes r y → Has r u (added e x y u).units → shown r (added e x y u).slices ≡ (shown r x + shown r y) % 2 ^ e
sum_shows r u e x y some b hx hy h =
    ap number_of (chain_shows r u Carry.Zero [] (each (slices_of e) cell) b (suits_from r x cell 0 (slices_of e) hx (λ i. refl) (λ i. steady_b) (λ i. refl)) h)
    ∙ sums_shown r cell e (shown r x) (shown r y) 0 some (omega arith) is_sum ∙ ap (λ (k : ℕ). k % 2 ^ e) (omega arith)
  where
    cell : ℕ → Cell
    cell = λ i. record (sum_cell 204 x y i) { mask = top e i }

    is_sum : (i : ℕ) → i < slices_of e → IsSum r (chained (cell i)) (byte_at (shown r x) i) (byte_at (shown r y) i) (top e i)
    is_sum i l =
        let t : looked_up 204 (wire_byte r (byte x i)) (wire_byte r (byte y i)) 0 ≡ byte_at (shown r y) i = byte_b (wire_byte r (byte x i)) (wire_byte r (byte y i)) 0 (hy.at i) (omega arith) ∙ byte_is r y i hy in
        record {
          byte = λ c. ap₂ (λ (m n : ℕ). bit_and ((m + n + c) % 256) (top e i)) (byte_is r x i hx) t;
          carry = λ c. ap₂ (λ (m n : ℕ). (m + n + c) / 256) (byte_is r x i hx) t;
          x_small = omega arith;
          y_small = omega arith;
        }

-- a difference of e bits
pub difference_shows : (r : Reading) (u e : ℕ) (x y : List Slice) → 1 ≤ e → AreBytes r → Bytes r x → Bytes r y → Has r u (subtracted e x y u).units → shown r (subtracted e x y u).slices ≡ (shown r x + (2 ^ e - shown r y % 2 ^ e)) % 2 ^ e
difference_shows r u e x y some b hx hy h =
    let z : ℕ = turned_bytes (slices_of e) (shown r y) in
    let m : ℕ = 2 ^ e in
    let w : (z + 1) % m ≡ (m - shown r y % m) % m = add-mod z 1 m ∙ ap (λ (k : ℕ). (k + 1 % m) % m) (sym (mod-eq_of_lt (mod-lt z (pow_pos e)))) ∙ sym (add-mod (z % m) 1 m) ∙ ap (λ (k : ℕ). (k + 1) % m) (turned_low (slices_of e) (shown r y) e (omega arith)) ∙ ap (λ (k : ℕ). k % m) (omega (arith, mod-lt (shown r y) (pow_pos e))) in
    let a : shown r x + z + 1 ≡ shown r x + (z + 1) = omega arith in
    ap number_of (chain_shows r u Carry.One [] (each (slices_of e) cell) b (suits_from r x cell 0 (slices_of e) hx (λ i. refl) (λ i. steady_not_b) (λ i. refl)) h)
    ∙ sums_shown r cell e (shown r x) z 1 some (omega arith) is_sum ∙ ap (λ (k : ℕ). k % m) a ∙ add-mod (shown r x) (z + 1) m ∙ ap (λ (k : ℕ). (shown r x % m + k) % m) w ∙ sym (add-mod (shown r x) (m - shown r y % m) m)
  where
    cell : ℕ → Cell
    cell = λ i. record (sum_cell 51 x y i) { mask = top e i }

    is_sum : (i : ℕ) → i < slices_of e → IsSum r (chained (cell i)) (byte_at (shown r x) i) (byte_at (turned_bytes (slices_of e) (shown r y)) i) (top e i)
    is_sum i l =
        let t : looked_up 51 (wire_byte r (byte x i)) (wire_byte r (byte y i)) 0 ≡ byte_at (turned_bytes (slices_of e) (shown r y)) i = byte_not_b (wire_byte r (byte x i)) (wire_byte r (byte y i)) 0 (hy.at i) (omega arith) ∙ ap (λ (k : ℕ). 255 - k) (byte_is r y i hy) ∙ byte_turned (slices_of e) (shown r y) i l in
        record {
          byte = λ c. ap₂ (λ (m n : ℕ). bit_and ((m + n + c) % 256) (top e i)) (byte_is r x i hx) t;
          carry = λ c. ap₂ (λ (m n : ℕ). (m + n + c) / 256) (byte_is r x i hx) t;
          x_small = omega arith;
          y_small = omega arith;
        }
