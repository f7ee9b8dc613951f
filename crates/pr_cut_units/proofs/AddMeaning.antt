-- What the units of Add show.
use Rattle.std.proofs.Common.{◌≡◌, ◌<◌, ◌≤◌, ℕ, zero, suc, ◌+◌, ◌-◌, ◌*◌, ◌/◌, ◌%◌, ◌^◌, ◌==◌, true, false, List, [], map, bit_and, subst, refl, sym, ap, ap₂, ◌∙◌, arith}
use Rattle.std.specs.Bool.{if◌then◌else◌}
use Rattle.std.specs.List.{range_with_len}
use Rattle.std.proofs.lemmas.Bool.Decides.{nat_tests}
use Rattle.std.proofs.lemmas.Nat.{pow-add}
use Rattle.pr_base.specs.Numbers.{number_of, slices_of, top_mask_of}
use Rattle.pr_base.specs.declared.choices.Carry.{Carry}
use Rattle.pr_net.specs.declared.cells.Slice.{Slice}
use Rattle.pr_net.specs.declared.cells.Cell.{Cell}
use Rattle.pr_net.specs.Reading.{Reading, wire_byte, outs, Has, shown}
use Rattle.pr_net.specs.Runs.{AreBytes}
use Rattle.pr_net.specs.Order.{IsByte}
use Rattle.pr_cut_units.specs.declared.chains.Style.{Style}
use Rattle.pr_cut_units.specs.Cells.{byte, top}
use Rattle.pr_cut_units.specs.Operators.{sum_cell, added}
use Rattle.pr_cut_units.proofs.ChainMeaning.{chained, AllSuit, chain_shows}
use Rattle.pr_cut_units.proofs.Tables.{byte_b, steady_b}
use Rattle.pr_cut_units.proofs.Sums.{IsSum, AllSum, scale, sum_of}

-- every byte of a value is one, in the reading and as a field
pub record Bytes (r : Reading) (x : List Slice) : Type 0 where
  pub at : (i : ℕ) → wire_byte r (byte x i) < 256
  pub field : (i : ℕ) → IsByte (byte x i)

-- the number of n bytes of a value from byte a on
abbrev pub part_shown : Reading → List Slice → ℕ → ℕ → ℕ
part_shown r x a n = number_of (map (λ i. wire_byte r (byte x i)) (range_with_len a n))

add_cell : ℕ → List Slice → List Slice → ℕ → Cell
add_cell e x y i = record (sum_cell 204 x y i) { mask = top e i }

is_sum : (r : Reading) (x y : List Slice) (i mask : ℕ) → Bytes r x → Bytes r y → IsSum r (chained (record (sum_cell 204 x y i) { mask = mask })) (wire_byte r (byte x i)) (wire_byte r (byte y i)) mask
is_sum r x y i mask hx hy =
    let a = wire_byte r (byte x i) in
    let e = byte_b a (wire_byte r (byte y i)) 0 (hy.at i) (omega arith) in
    record {
      byte = λ c. ap (λ (n : ℕ). bit_and ((a + n + c) % 256) mask) e;
      carry = λ c. ap (λ (n : ℕ). (a + n + c) / 256) e;
      x_small = hx.at i;
      y_small = hy.at i;
    }

top_last : (e i : ℕ) → i + 1 ≡ slices_of e → top e i ≡ top_mask_of e
top_last e i h = grind (arith, nat_tests)

top_other : (e i n : ℕ) → i + suc (suc n) ≡ slices_of e → top e i ≡ 255
top_other e i n h = grind (arith, nat_tests)

-- how many bits the top byte of e bits has
abbrev pub top_bits : ℕ → ℕ
top_bits e = if e % 8 == 0 then 8 else e % 8

top_is : (e : ℕ) → top_mask_of e ≡ 2 ^ top_bits e - 1
top_is e = elim (e % 8 == 0) as (λ t. (if t then 255 else 2 ^ (e % 8) - 1) ≡ 2 ^ (if t then 8 else e % 8) - 1) [ true ↦ refl | false ↦ refl ]

top_few : (e : ℕ) → top_bits e ≤ 8
top_few e = elim (e % 8 == 0) as (λ t. (if t then 8 else e % 8) ≤ 8) [ true ↦ omega arith | false ↦ omega arith ]

cells_sum : (r : Reading) (e a n : ℕ) (x y : List Slice) → a + suc n ≡ slices_of e → Bytes r x → Bytes r y → AllSum r (2 ^ top_bits e - 1) (map chained (map (add_cell e x y) (range_with_len a (suc n)))) (map (λ i. wire_byte r (byte x i)) (range_with_len a (suc n))) (map (λ i. wire_byte r (byte y i)) (range_with_len a (suc n)))
unfolding add_cell
cells_sum r e a zero x y h hx hy = (subst (λ (m : ℕ). IsSum r (chained (record (sum_cell 204 x y a) { mask = top e a })) (wire_byte r (byte x a)) (wire_byte r (byte y a)) m) (top_last e a (omega (arith, h)) ∙ top_is e) (is_sum r x y a (top e a) hx hy), tt)
cells_sum r e a (suc n) x y h hx hy = (subst (λ (m : ℕ). IsSum r (chained (record (sum_cell 204 x y a) { mask = top e a })) (wire_byte r (byte x a)) (wire_byte r (byte y a)) m) (top_other e a n h) (is_sum r x y a (top e a) hx hy), cells_sum r e (a + 1) n x y (omega (arith, h)) hx hy)

cells_suit : (e a n : ℕ) (r : Reading) (x y : List Slice) → Bytes r x → AllSuit Style.ByBit (map (add_cell e x y) (range_with_len a n))
unfolding add_cell
cells_suit e a zero r x y h = tt
cells_suit e a (suc n) r x y h = ((record { none = refl; steady = steady_b }, h.field a), cells_suit e (a + 1) n r x y h)

scale_is : (j a n : ℕ) (f : ℕ → Cell) → scale (2 ^ j) (map chained (map f (range_with_len a n))) ≡ 2 ^ (8 * n + j)
scale_is j a zero f = ap (λ (k : ℕ). 2 ^ k) (omega arith)
scale_is j a (suc n) f =
    let e : 8 * suc n + j ≡ 8 + (8 * n + j) = omega arith in
    ap (λ (k : ℕ). 256 * k) (scale_is j (a + 1) n f) ∙ sym (pow-add 2 8 (8 * n + j)) ∙ ap (λ (k : ℕ). 2 ^ k) (sym e)

bits_are : (e n : ℕ) → 1 ≤ e → suc n ≡ slices_of e → 8 * n + top_bits e ≡ e
bits_are e n h l = grind (arith, nat_tests)

-- a sum of e bits, of the bytes that e bits take
pub added_shows : (r : Reading) (u e n : ℕ) (x y : List Slice) → 1 ≤ e → suc n ≡ slices_of e → AreBytes r → Bytes r x → Bytes r y → Has r u (added e x y u).units → shown r (added e x y u).slices ≡ (part_shown r x 0 (suc n) + part_shown r y 0 (suc n)) % 2 ^ e
unfolding add_cell
added_shows r u e n x y some long b hx hy h =
    let cells : ℕ → List Cell = λ k. map (add_cell e x y) (range_with_len 0 k) in
    let whole = chain_shows r u Carry.Zero [] (cells (slices_of e)) b (cells_suit e 0 (slices_of e) r x y hx) h in
    let sums : AllSum r (2 ^ top_bits e - 1) (map chained (cells (suc n))) (map (λ i. wire_byte r (byte x i)) (range_with_len 0 (suc n))) (map (λ i. wire_byte r (byte y i)) (range_with_len 0 (suc n))) = cells_sum r e 0 n x y (omega (arith, long)) hx hy in
    let modulus : scale (2 ^ top_bits e) (map chained (map (add_cell e x y) (range_with_len (0 + 1) n))) ≡ 2 ^ e = scale_is (top_bits e) (0 + 1) n (add_cell e x y) ∙ ap (λ (k : ℕ). 2 ^ k) (bits_are e n some long) in
    ap number_of whole ∙ ap (λ (k : ℕ). number_of (outs r (map chained (cells k)) 0)) (sym long)
    ∙ sum_of r (top_bits e) 0 (chained (add_cell e x y 0)) (map chained (map (add_cell e x y) (range_with_len (0 + 1) n))) (wire_byte r (byte x 0)) (wire_byte r (byte y 0)) (map (λ i. wire_byte r (byte x i)) (range_with_len (0 + 1) n)) (map (λ i. wire_byte r (byte y i)) (range_with_len (0 + 1) n)) (top_few e) (omega arith) sums
    ∙ ap₂ (λ (k m : ℕ). k % m) (omega arith) modulus
