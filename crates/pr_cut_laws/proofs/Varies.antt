-- The rows of a variable shift.
use Rattle.std.proofs.Common.{ℕ, zero, suc, ◌≡◌, ◌+◌, ◌*◌, ◌/◌, ◌%◌, ◌^◌, ◌-◌, ◌<◌, ◌≤◌, ◌&&◌, Bool, true, false, cond, nat_lt, List, length, bit_and, subst, refl, ap, ap₂, sym, ◌∙◌, inl, inr, pow-add, arith}
use Rattle.std.specs.Bool.{if◌then◌else◌}
use Rattle.std.specs.Int.{bit_at}
use Rattle.std.proofs.Math.Nat.{mod-lt, mod-eq_of_lt, mod-add-div, div-div-eq-div-mul, div-eq_of_lt, div-le_self, pow-le-pow_right, mul-mod_left, zero-mod}
use Rattle.std.proofs.lemmas.Nat.{pow_pos, shr-shr, mul-mod_first}
use Rattle.std.proofs.lemmas.Bool.{cases_Bool, ltb-false, cases_lt, lt-ltb}
use Rattle.pr_base.specs.Numbers.{byte_at}
use Rattle.pr_base.specs.Pe.{looked_up}
use Rattle.pr_net.specs.declared.cells.Slice.{Slice}
use Rattle.pr_net.specs.declared.cells.Cell.{Cell}
use Rattle.pr_net.specs.Reading.{Reading, wire_byte, cell_byte, Has, shown}
use Rattle.pr_net.specs.Runs.{AreBytes}
use Rattle.pr_cut_units.specs.Cells.{plain, byte, bit_of, top, table_b_where_c}
use Rattle.pr_cut_units.specs.Parts.{Part, in_turn}
use Rattle.pr_cut_units.specs.Shifts.{with_shift, shift_cell, shift_row, shifted_by}
use Rattle.pr_cut_units.proofs.AddMeaning.{Bytes}
use Rattle.pr_cut_units.proofs.Operands.{AreOperands, operands_more}
use Rattle.pr_cut_units.proofs.GoodParts.{GoodPart}
use Rattle.pr_cut_units.proofs.GoodTable.{good_shift_row}
use Rattle.pr_cut_units.proofs.Sums.{mod_scaled}
use Rattle.pr_cut_units.proofs.Tables.{byte_a_where_0, byte_b_where_1}
use Rattle.pr_cut_laws.proofs.Digits.{byte_none}
use Rattle.pr_cut_laws.proofs.Shown.{byte_is, bit_is, unit_shows, operand_bytes}
use Rattle.pr_cut_laws.proofs.Moved.{b_byte, left_is, right_is}
use Rattle.pr_cut_laws.proofs.Wides.{then_has}

-- a number shifted to one side
abbrev pub moved : Bool → ℕ → ℕ → ℕ
moved true x k = x * 2 ^ k
moved false x k = x / 2 ^ k

side_is : (left : Bool) (r : Reading) (x : List Slice) (k i : ℕ) (cell : Cell) → Bytes r x → b_byte r (with_shift left x k i cell) ≡ byte_at (moved left (shown r x) k) i
side_is true r x k i cell h = left_is r x k i cell h
side_is false r x k i cell h = right_is r x k i cell h

-- the number that a row makes, before it is cut
abbrev is_near : ℕ → ℕ → Bool
is_near w j = nat_lt j 7 && nat_lt (2 ^ j) w

abbrev row_number : Bool → ℕ → ℕ → ℕ → ℕ → ℕ
row_number left w j x zero = x
row_number left w j x (suc s) = cond (is_near w j) (moved left x (2 ^ j)) 0

abbrev base_cell : ℕ → List Slice → ℕ → List Slice → ℕ → Cell
base_cell w by j before i = record plain { a = byte before i; c = bit_of by j; table = table_b_where_c; mask = top w i }

-- what the cell's table sees
near_byte : (left near : Bool) (r : Reading) (w j i d : ℕ) (by before : List Slice) → cell_byte r (if near then with_shift left before (2 ^ j) i (base_cell w by j before i) else base_cell w by j before i) d ≡ bit_and (looked_up 202 (wire_byte r (byte before i)) (b_byte r (if near then with_shift left before (2 ^ j) i (base_cell w by j before i) else base_cell w by j before i)) (bit_at (wire_byte r (byte by (j / 8))) (j % 8))) (top w i)
near_byte true true r w j i d by before = refl
near_byte false true r w j i d by before = refl
near_byte left false r w j i d by before = refl

near_b : (left near : Bool) (r : Reading) (w j i : ℕ) (by before : List Slice) → Bytes r before → b_byte r (if near then with_shift left before (2 ^ j) i (base_cell w by j before i) else base_cell w by j before i) ≡ byte_at (cond near (moved left (shown r before) (2 ^ j)) 0) i
near_b left true r w j i by before h = side_is left r before (2 ^ j) i (base_cell w by j before i) h
near_b left false r w j i by before h = sym (byte_none i)

row_byte : (left : Bool) (r : Reading) (w j i d s : ℕ) (by before : List Slice) → Bytes r before → s < 2 → bit_at (wire_byte r (byte by (j / 8))) (j % 8) ≡ s → cell_byte r (shift_cell left w by j before i) d ≡ bit_and (byte_at (row_number left w j (shown r before) s) i) (top w i)
row_byte left r w j i d zero by before h hs e =
    let b : ℕ = b_byte r (shift_cell left w by j before i) in
    near_byte left (is_near w j) r w j i d by before ∙ ap (λ (c : ℕ). bit_and (looked_up 202 (wire_byte r (byte before i)) b c) (top w i)) e
    ∙ ap (λ (n : ℕ). bit_and n (top w i)) (byte_a_where_0 (wire_byte r (byte before i)) b (h.at i) ∙ byte_is r before i h)
row_byte left r w j i d (suc zero) by before h hs e =
    let y : ℕ = row_number left w j (shown r before) 1 in
    near_byte left (is_near w j) r w j i d by before ∙ ap₂ (λ (b c : ℕ). bit_and (looked_up 202 (wire_byte r (byte before i)) b c) (top w i)) (near_b left (is_near w j) r w j i by before h) e
    ∙ ap (λ (n : ℕ). bit_and n (top w i)) (byte_b_where_1 (wire_byte r (byte before i)) (byte_at y i) (omega arith))
row_byte left r w j i d (suc (suc s)) by before h hs e = absurd (omega arith)

-- a shift by w or more leaves nothing of w bits
none_left : (left : Bool) (w k x : ℕ) → x < 2 ^ w → w ≤ k → moved left x k % 2 ^ w ≡ 0
none_left true w k x l h =
    let e : (k - w) + w ≡ k = omega arith in
    let p : x * 2 ^ k ≡ x * 2 ^ (k - w) * 2 ^ w = ap (λ (i : ℕ). x * 2 ^ i) (sym e) ∙ ap (λ (i : ℕ). x * i) (pow-add 2 (k - w) w) ∙ assoc x (2 ^ (k - w)) (2 ^ w) in
    ap (λ (i : ℕ). i % 2 ^ w) p ∙ mul-mod_left (x * 2 ^ (k - w)) (2 ^ w)
  where
    assoc : (a b c : ℕ) → a * (b * c) ≡ a * b * c
    assoc a b c = omega arith
none_left false w k x l h =
    let two : 0 < 2 = omega arith in
    let more : 2 ^ w ≤ 2 ^ k = pow-le-pow_right two h in
    let z : x / 2 ^ k ≡ 0 = div-eq_of_lt (omega (arith, l, more)) in
    ap (λ (i : ℕ). i % 2 ^ w) z ∙ zero-mod (2 ^ w)

far_is : (w j : ℕ) → w ≤ 128 → is_near w j ≡ false → w ≤ 2 ^ j
far_is w j hw h = elim (cases_lt j 7) [
  | inl l ↦ ltb-false (2 ^ j) w (rest (nat_lt j 7) (nat_lt (2 ^ j) w) (lt-ltb j 7 l) h)
  | inr g ↦ (
      let two : 0 < 2 = omega arith in
      let more : 2 ^ 7 ≤ 2 ^ j = pow-le-pow_right two g in
      omega (arith, more, hw))
]
  where
    rest : (s t : Bool) → s ≡ true → (s && t) ≡ false → t ≡ false
    rest true t e f = f
    rest false t e f = f' t e
      where
        f' : (t : Bool) → false ≡ true → t ≡ false
        f' t e = absurd (grind (arith, e))

row_cut : (left : Bool) (w j x s : ℕ) → w ≤ 128 → x < 2 ^ w → s < 2 → row_number left w j x s % 2 ^ w ≡ moved left x (2 ^ j * s) % 2 ^ w
row_cut left w j x zero hw l hs = ap (λ (i : ℕ). i % 2 ^ w) (still left x (2 ^ j))
  where
    still : (left : Bool) (x k : ℕ) → x ≡ moved left x (k * 0)
    still true x k = let e : k * 0 ≡ 0 = omega arith in rw e (omega arith)
    still false x k = let e : k * 0 ≡ 0 = omega arith in rw e (omega arith)
row_cut left w j x (suc zero) hw l hs = elim (cases_Bool (is_near w j)) [
  | inl near ↦ (
      let e : 2 ^ j ≡ 2 ^ j * 1 = omega arith in
      ap (λ (b : Bool). cond b (moved left x (2 ^ j)) 0 % 2 ^ w) near ∙ ap (λ (i : ℕ). moved left x i % 2 ^ w) e)
  | inr far ↦ (
      let e : w ≤ 2 ^ j * 1 = omega (arith, far_is w j hw far) in
      ap (λ (b : Bool). cond b (moved left x (2 ^ j)) 0 % 2 ^ w) far ∙ zero-mod (2 ^ w) ∙ sym (none_left left w (2 ^ j * 1) x l e))
]
row_cut left w j x (suc (suc s)) hw l hs = absurd (omega arith)

-- one shift after another
twice : (left : Bool) (w x j k : ℕ) → x < 2 ^ w → moved left (moved left x j % 2 ^ w) k % 2 ^ w ≡ moved left x (j + k) % 2 ^ w
twice true w x j k l =
    let e : x * 2 ^ j * 2 ^ k ≡ x * 2 ^ (j + k) = assoc x (2 ^ j) (2 ^ k) ∙ ap (λ (i : ℕ). x * i) (sym (pow-add 2 j k)) in
    mul-mod_first (x * 2 ^ j) (2 ^ k) (2 ^ w) ∙ ap (λ (i : ℕ). i % 2 ^ w) e
  where
    assoc : (a b c : ℕ) → a * b * c ≡ a * (b * c)
    assoc a b c = omega arith
twice false w x j k l =
    let s : x / 2 ^ j < 2 ^ w = omega (arith, div-le_self x (2 ^ j), l) in
    ap (λ (i : ℕ). i / 2 ^ k % 2 ^ w) (mod-eq_of_lt s) ∙ ap (λ (i : ℕ). i % 2 ^ w) (shr-shr x j k)

-- n rows from row j on
shifts_show : (left : Bool) (r : Reading) (w u j n : ℕ) (by x : List Slice) → 1 ≤ w → w ≤ 128 → AreBytes r → AreOperands u by → AreOperands u x → shown r x < 2 ^ w → Has r u (in_turn (shift_row left w by) j n x u).units → shown r (in_turn (shift_row left w by) j n x u).slices ≡ moved left (shown r x) (2 ^ j * (shown r by / 2 ^ j % 2 ^ n)) % 2 ^ w
shifts_show left r w u j zero by x hw few bs kb kx l has =
    let z : shown r by / 2 ^ j % 2 ^ 0 ≡ 0 = omega arith in
    let e : 2 ^ j * (shown r by / 2 ^ j % 2 ^ 0) ≡ 0 = ap (λ (i : ℕ). 2 ^ j * i) z ∙ omega arith in
    sym (ap (λ (i : ℕ). moved left (shown r x) i % 2 ^ w) e ∙ ap (λ (i : ℕ). i % 2 ^ w) (still left (shown r x)) ∙ mod-eq_of_lt l)
  where
    still : (left : Bool) (x : ℕ) → moved left x 0 ≡ x
    still true x = omega arith
    still false x = omega arith
shifts_show left r w u j (suc n) by x hw few bs kb kx l has =
    let y : ℕ = shown r by in
    let v : ℕ = shown r x in
    let s : ℕ = y / 2 ^ j % 2 in
    let row : Part = shift_row left w by j x u in
    let t : ℕ = u + length row.units in
    let both = then_has r u (shift_row left w by j x) (in_turn (shift_row left w by) (j + 1) n) has in
    let bx : Bytes r x = operand_bytes r u x bs kx in
    let good : GoodPart u row = (good_shift_row u left w by kb).at j u x (omega arith) kx in
    let e : bit_at (wire_byte r (byte by (j / 8))) (j % 8) ≡ s = bit_is r by j (operand_bytes r u by bs kb) in
    let one : shown r row.slices ≡ moved left v (2 ^ j * s) % 2 ^ w = unit_shows r u w (row_number left w j v s) (λ i. shift_cell left w by j x i) hw both.0 (λ i d g. row_byte left r w j i d s by x bx (omega arith) e) ∙ row_cut left w j v s few l (omega arith) in
    let small : shown r row.slices < 2 ^ w = subst (λ (k : ℕ). k < 2 ^ w) (sym one) (mod-lt (moved left v (2 ^ j * s)) (pow_pos w)) in
    let ih = shifts_show left r w t (j + 1) n by row.slices hw few bs (operands_more u t by (omega arith) kb) good.slices small both.1 in
    let k : ℕ = y / 2 ^ (j + 1) % 2 ^ n in
    let p : 2 ^ (j + 1) ≡ 2 ^ j * 2 = pow-add 2 j 1 ∙ omega arith in
    let up : y / 2 ^ (j + 1) ≡ y / 2 ^ j / 2 = ap (λ (i : ℕ). y / i) p ∙ sym (div-div-eq-div-mul y (2 ^ j) 2) in
    let two : y / 2 ^ j % 2 ^ suc n ≡ s + 2 * k = split (y / 2 ^ j) n ∙ ap (λ (i : ℕ). s + 2 * (i % 2 ^ n)) (sym up) in
    let whole : 2 ^ j * s + 2 ^ (j + 1) * k ≡ 2 ^ j * (y / 2 ^ j % 2 ^ suc n) = spread (2 ^ j) s (2 ^ (j + 1)) k p ∙ ap (λ (i : ℕ). 2 ^ j * i) (sym two) in
    ih ∙ ap (λ (i : ℕ). moved left i (2 ^ (j + 1) * k) % 2 ^ w) one ∙ twice left w v (2 ^ j * s) (2 ^ (j + 1) * k) l ∙ ap (λ (i : ℕ). moved left v i % 2 ^ w) whole
  where
    spread : (a s b k : ℕ) → b ≡ a * 2 → a * s + b * k ≡ a * (s + 2 * k)
    spread a s b k e = ap (λ (i : ℕ). a * s + i * k) e ∙ omega arith

    split : (a n : ℕ) → a % 2 ^ suc n ≡ a % 2 + 2 * (a / 2 % 2 ^ n)
    split a n =
        let p : 2 ^ suc n ≡ 2 * 2 ^ n = omega arith in
        ap₂ (λ (i j : ℕ). i % j) (sym (mod-add-div a 2)) p ∙ mod_scaled (a % 2) 2 (a / 2) (2 ^ n) (omega arith) (pow_pos n)

-- all rows
pub shifted_shows : (left : Bool) (r : Reading) (u w n : ℕ) (by x : List Slice) → 1 ≤ w → w ≤ 128 → AreBytes r → AreOperands u by → AreOperands u x → shown r x < 2 ^ w → shown r by < 2 ^ n → Has r u (shifted_by left w by n x u).units → shown r (shifted_by left w by n x u).slices ≡ moved left (shown r x) (shown r by) % 2 ^ w
shifted_shows left r u w n by x hw few bs kb kx l lb has =
    let one : shown r by / 2 ^ 0 ≡ shown r by = omega arith in
    let e : 2 ^ 0 * (shown r by / 2 ^ 0 % 2 ^ n) ≡ shown r by = ap (λ (i : ℕ). 2 ^ 0 * (i % 2 ^ n)) one ∙ ap (λ (i : ℕ). 2 ^ 0 * i) (mod-eq_of_lt lb) ∙ omega arith in
    shifts_show left r w u 0 n by x hw few bs kb kx l has ∙ ap (λ (i : ℕ). moved left (shown r x) i % 2 ^ w) e
