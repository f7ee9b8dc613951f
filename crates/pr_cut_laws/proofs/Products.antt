-- A product is that of the numbers, modulo 2 to the power of its bits.
use Rattle.std.proofs.Common.{ℕ, zero, suc, ◌≡◌, ◌+◌, ◌*◌, ◌/◌, ◌%◌, ◌^◌, ◌-◌, ◌<◌, ◌≤◌, min, List, [], ◌∷◌, length, map, take, bit_and, subst, refl, ap, ap₂, sym, ◌∙◌, inl, inr, pow-add, length-append, arith}
use Rattle.std.specs.List.{range_with_len}
use Rattle.std.specs.Int.{bit_at}
use Rattle.std.proofs.Math.Nat.{mod-lt, mod-eq_of_lt, mod-add-div, div-div-eq-div-mul, add-mod, mod-mod, pow-le-pow_right}
use Rattle.std.proofs.lemmas.Nat.{pow_pos, mul-mod_second, shl_below}
use Rattle.std.proofs.lemmas.Bool.{cases_lt}
use Rattle.pr_base.specs.Numbers.{byte_at, number_of, slices_of}
use Rattle.pr_base.specs.Pe.{looked_up}
use Rattle.pr_base.specs.declared.choices.Carry.{Carry}
use Rattle.pr_base.specs.declared.choices.Mode.{Mode}
use Rattle.pr_net.specs.declared.cells.Slice.{Slice}
use Rattle.pr_net.specs.declared.cells.Wire.{Wire}
use Rattle.pr_net.specs.declared.cells.Cell.{Cell}
use Rattle.pr_net.specs.Reading.{Reading, wire_byte, bytes_shown, cell_byte, cell_carry, outs, Has, shown}
use Rattle.pr_net.specs.Runs.{AreBytes}
use Rattle.pr_cut_units.specs.declared.chains.Style.{Style}
use Rattle.pr_cut_units.specs.Cells.{plain, byte, bit_of, top, with_left, table_b_and_c}
use Rattle.pr_cut_units.specs.Parts.{Part, each, in_turn}
use Rattle.pr_cut_units.specs.Chains.{linked, segments, places, entries}
use Rattle.pr_cut_units.specs.Products.{row_width, row_cell, product_row, product}
use Rattle.pr_cut_units.proofs.EachLemmas.{length-each}
use Rattle.pr_cut_units.proofs.AddMeaning.{Bytes}
use Rattle.pr_cut_units.proofs.Operands.{AreOperands, operands_more}
use Rattle.pr_cut_units.proofs.GoodParts.{GoodPart}
use Rattle.pr_cut_units.proofs.GoodTable.{good_row}
use Rattle.pr_cut_units.proofs.ChainMeaning.{AllSuit, chained, begins, at_place, unseen}
use Rattle.pr_cut_units.proofs.Sums.{IsSum, mod_scaled}
use Rattle.pr_cut_units.proofs.Tables.{byte_b_and_c}
use Rattle.pr_cut_laws.proofs.Digits.{bytes_pow, big_pos, byte_none, byte_whole, top_upper}
use Rattle.pr_cut_laws.proofs.Shown.{byte_is, bit_is, operand_bytes}
use Rattle.pr_cut_laws.proofs.Moved.{b_byte, left_is, times_over}
use Rattle.pr_cut_laws.proofs.ChainSums.{sums_shown}
use Rattle.pr_cut_laws.proofs.Widen.{shown-append, taken_shown, length-taken}
use Rattle.pr_cut_laws.proofs.Wides.{then_has}

-- ---- a chain whose later segments begin with an entry cell
same_places : (s : Style) (u room place : ℕ) (ks : List Cell) → places s u room place ks ≡ places s u room place (map chained ks)
same_places s u room place [] = refl
same_places s u zero place (k ∷ ks) = ap (λ (x : List Slice). Slice.Of (suc u) (entries s) ∷ x) (same_places s (suc u) 3 (suc (entries s)) ks)
same_places s u (suc room) place (k ∷ ks) = ap (λ (x : List Slice). Slice.Of u place ∷ x) (same_places s u room (suc place) ks)

pub length-places : (s : Style) (u room place : ℕ) (ks : List Cell) → length (places s u room place ks) ≡ length ks
length-places s u room place [] = refl
length-places s u zero place (k ∷ ks) = ap suc (length-places s (suc u) 3 (suc (entries s)) ks)
length-places s u (suc room) place (k ∷ ks) = ap suc (length-places s u room (suc place) ks)

first_byte : (r : Reading) (k : Cell) → cell_byte r (record k { cin = Carry.Zero }) 0 ≡ cell_byte r (chained k) 0
first_byte r k = refl

first_carry : (r : Reading) (k : Cell) → cell_carry r (record k { cin = Carry.Zero }) 0 ≡ cell_carry r (chained k) 0
first_carry r k = refl

entry_shows : (r : Reading) (u : ℕ) (cells : List Cell) → AreBytes r → AllSuit Style.ByEntry cells → Has r u (segments Style.ByEntry u 4 [] [] (linked Carry.Zero cells)) → bytes_shown r (places Style.ByEntry u 4 0 cells) ≡ outs r (map chained cells) 0
entry_shows r u [] b t h = refl
entry_shows r u (k ∷ ks) b t h =
    let q : Cell = record k { cin = Carry.Zero } in
    let p = begins Style.ByEntry r u 3 (q ∷ []) [] (map chained ks) h in
    let head : wire_byte r (Wire.Of u 0) ≡ cell_byte r q 0 = at_place r [] q p.0 _ p.1 in
    ap₂ (λ (x : ℕ) (xs : List ℕ). x ∷ xs) (head ∙ first_byte r k)
    (ap (bytes_shown r) (same_places Style.ByEntry u 3 1 ks) ∙ unseen Style.ByEntry r u 3 (q ∷ []) [] ks b (t.0.1, tt) t.1 h ∙ ap (outs r (map chained ks)) (first_carry r k))

entries_suit : (r : Reading) (x : List Slice) (f : ℕ → Cell) (q a n : ℕ) → Bytes r x → ((i : ℕ) → (f i).a ≡ byte x (q + i)) → AllSuit Style.ByEntry (map f (range_with_len a n))
entries_suit r x f q a zero h k = tt
entries_suit r x f q a (suc n) h k = ((tt, rw (k a) (h.field (q + a))), entries_suit r x f q (a + 1) n h k)

-- ---- one row
-- the cell of slice q + i, as a sum
row_sum : (r : Reading) (e w j i s : ℕ) (a b before : List Slice) → j < row_width e w j → s < 2 → bit_at (shown r b) j ≡ s → Bytes r a → Bytes r b → Bytes r before → IsSum r (chained (row_cell e w a b j before (j / 8 + i))) (byte_at (shown r before / 256 ^ (j / 8)) i) (byte_at (s * (shown r a * 2 ^ j / 256 ^ (j / 8))) i) (top (row_width e w j - 8 * (j / 8)) i)
row_sum r e w j i s a b before hj hs bit ha hb hp =
    let q : ℕ = j / 8 in
    let m : ℕ = row_width e w j in
    let y : ℕ = shown r a * 2 ^ j in
    let base : Cell = record plain { a = byte before (q + i); c = bit_of b j; mode = Mode.Sum; table = table_b_and_c; mask = top m (q + i) } in
    let x_is : wire_byte r (byte before (q + i)) ≡ byte_at (shown r before / 256 ^ q) i = byte_is r before (q + i) hp ∙ ap (byte_at (shown r before)) (omega arith) ∙ byte_whole (shown r before) q i in
    let b_is : b_byte r (with_left a j (q + i) base) ≡ byte_at (y / 256 ^ q) i = left_is r a j (q + i) base ha ∙ ap (byte_at y) (omega arith) ∙ byte_whole y q i in
    let c_is : bit_at (wire_byte r (byte b (j / 8))) (j % 8) ≡ s = bit_is r b j hb ∙ bit in
    let t : looked_up 192 (wire_byte r (byte before (q + i))) (b_byte r (with_left a j (q + i) base)) (bit_at (wire_byte r (byte b (j / 8))) (j % 8)) ≡ byte_at (s * (y / 256 ^ q)) i =
    ap₂ (looked_up 192 (wire_byte r (byte before (q + i)))) b_is c_is ∙ byte_b_and_c (wire_byte r (byte before (q + i))) (byte_at (y / 256 ^ q) i) s (omega arith) (omega (arith, hs)) ∙ scaled s (y / 256 ^ q) i hs in
    let k : top m (q + i) ≡ top (m - 8 * q) i = top_upper m q i (omega (arith, hj)) in
    record {
      byte = λ c. sum_byte _ _ _ _ c (top m (q + i)) (top (m - 8 * q) i) x_is t k;
      carry = λ c. ap₂ (λ (x y : ℕ). (x + y + c) / 256) x_is t;
      x_small = omega arith;
      y_small = omega arith;
    }
  where
    scaled : (s y i : ℕ) → s < 2 → s * byte_at y i ≡ byte_at (s * y) i
    scaled zero y i h =
        let z : 0 * y ≡ 0 = omega arith in
        let n : 0 * byte_at y i ≡ 0 = omega arith in
        n ∙ sym (ap (λ (k : ℕ). byte_at k i) z ∙ byte_none i)
    scaled (suc zero) y i h =
        let z : 1 * y ≡ y = omega arith in
        let n : 1 * byte_at y i ≡ byte_at y i = omega arith in
        n ∙ sym (ap (λ (k : ℕ). byte_at k i) z)
    scaled (suc (suc s)) y i h = absurd (omega arith)

    sum_byte : (x y x' y' c m m' : ℕ) → x ≡ x' → y ≡ y' → m ≡ m' → bit_and ((x + y + c) % 256) m ≡ bit_and ((x' + y' + c) % 256) m'
    sum_byte x y x' y' c m m' e f g = ap₂ (λ (u v : ℕ). bit_and ((u + v + c) % 256) m) e f ∙ ap (bit_and ((x' + y' + c) % 256)) g

row_shows : (r : Reading) (e w u j : ℕ) (a b before : List Slice) → j < row_width e w j → AreBytes r → Bytes r a → Bytes r b → Bytes r before → j / 8 ≤ length before → Has r u (product_row e w a b j before u).units → shown r (product_row e w a b j before u).slices ≡ (shown r before + bit_at (shown r b) j * (shown r a * 2 ^ j)) % 2 ^ row_width e w j
row_shows r e w u j a b before hj bs ha hb hp long has =
    let q : ℕ = j / 8 in
    let m : ℕ = row_width e w j in
    let d : ℕ = m - 8 * q in
    let s : ℕ = bit_at (shown r b) j in
    let x : ℕ = shown r before in
    let y : ℕ = shown r a * 2 ^ j in
    let p : ℕ = 256 ^ q in
    let f : ℕ → Cell = λ i. row_cell e w a b j before (q + i) in
    let count : slices_of m - q ≡ slices_of d = omega (arith, hj) in
    let n : ℕ = x / p + s * (y / p) in
    let high : shown r (places Style.ByEntry u 4 0 (each (slices_of m - q) f)) ≡ n % 2 ^ d =
    ap number_of (entry_shows r u (each (slices_of m - q) f) bs (entries_suit r before f q 0 (slices_of m - q) hp (λ i. refl)) has)
    ∙ ap (λ (k : ℕ). number_of (outs r (map chained (each k f)) 0)) count
    ∙ sums_shown r f d (x / p) (s * (y / p)) 0 (omega (arith, hj)) (omega arith) (λ i l. row_sum r e w j i s a b before hj (omega arith) refl ha hb hp)
    ∙ ap (λ (k : ℕ). k % 2 ^ d) (omega arith) in
    let low : shown r (take q before) ≡ x % p = taken_shown r q before hp in
    let len : length (take q before) ≡ q = length-taken q before long in
    let both : shown r (product_row e w a b j before u).slices ≡ x % p + p * (n % 2 ^ d) = shown-append r (take q before) (places Style.ByEntry u 4 0 (each (slices_of m - q) f)) ∙ ap₂ (λ (i k : ℕ). i + 256 ^ length (take q before) * k) low high ∙ ap (λ (i : ℕ). x % p + 256 ^ i * (n % 2 ^ d)) len in
    let scaled : x % p + p * (n % 2 ^ d) ≡ (x % p + p * n) % (p * 2 ^ d) = sym (mod_scaled (x % p) p n (2 ^ d) (mod-lt x (big_pos q)) (pow_pos d)) in
    let pm : p * 2 ^ d ≡ 2 ^ m = ap (λ (i : ℕ). i * 2 ^ d) (bytes_pow q) ∙ sym (pow-add 2 (8 * q) d) ∙ ap (λ (i : ℕ). 2 ^ i) (omega (arith, hj)) in
    let split : 8 * q + j % 8 ≡ j = omega arith in
    let jp : 2 ^ j ≡ 2 ^ (j % 8) * p = ap (λ (i : ℕ). 2 ^ i) (sym split) ∙ pow-add 2 (8 * q) (j % 8) ∙ ap (λ (i : ℕ). i * 2 ^ (j % 8)) (sym (bytes_pow q)) ∙ turn p (2 ^ (j % 8)) in
    let yp : y ≡ shown r a * 2 ^ (j % 8) * p = ap (λ (i : ℕ). shown r a * i) jp ∙ assoc (shown r a) (2 ^ (j % 8)) p in
    let yd : p * (y / p) ≡ y = ap (λ (i : ℕ). p * i) (ap (λ (i : ℕ). i / p) yp ∙ times_over (shown r a * 2 ^ (j % 8)) p (big_pos q)) ∙ turn p (shown r a * 2 ^ (j % 8)) ∙ sym yp in
    let xd : x % p + p * (x / p) ≡ x = mod-add-div x p in
    let whole : x % p + p * n ≡ x + s * y = spread (x % p) p (x / p) s (y / p) x y xd yd in
    both ∙ scaled ∙ ap₂ (λ (i k : ℕ). i % k) whole pm
  where
    turn : (a b : ℕ) → a * b ≡ b * a
    turn a b = omega arith

    assoc : (a b c : ℕ) → a * (b * c) ≡ a * b * c
    assoc a b c = omega arith

    spread : (z p x s y v w : ℕ) → z + p * x ≡ v → p * y ≡ w → z + p * (x + s * y) ≡ v + s * w
    spread z p x s y v w e f = let g : p * (x + s * y) ≡ p * x + s * (p * y) = omega arith in omega (arith, e, g, ap (λ (i : ℕ). s * i) f)

-- nothing is lost at the row's own width
row_cut : (e v j x y s : ℕ) → x < 2 ^ (v + j) → y < 2 ^ v → s < 2 → ((x + s * (y * 2 ^ j)) % 2 ^ row_width e v j ≡ (x + s * (y * 2 ^ j)) % 2 ^ e) × (x + s * (y * 2 ^ j) < 2 ^ (v + suc j))
row_cut e v j x y s hx hy hs =
    let d : 2 ^ (v + suc j) ≡ 2 * 2 ^ (v + j) = ap (λ (i : ℕ). 2 ^ i) (omega arith) ∙ pow-add 2 1 (v + j) in
    let p : y * 2 ^ j < 2 ^ (v + j) = shl_below y v j hy in
    let l : x + s * (y * 2 ^ j) < 2 ^ (v + suc j) = below s (y * 2 ^ j) x (2 ^ (v + j)) (2 ^ (v + suc j)) hs d p hx in (
      elim (cases_lt e (v + j + 1)) [
        | inl a ↦ (let m : min e (v + j + 1) ≡ e = omega (arith, a) in ap (λ (i : ℕ). (x + s * (y * 2 ^ j)) % 2 ^ i) m)
        | inr g ↦ (
            let m : min e (v + j + 1) ≡ v + suc j = omega (arith, g) in
            let two : 0 < 2 = omega arith in
            let ge : v + suc j ≤ e = omega (arith, g) in
            let more : 2 ^ (v + suc j) ≤ 2 ^ e = pow-le-pow_right two ge in
            ap (λ (i : ℕ). (x + s * (y * 2 ^ j)) % 2 ^ i) m ∙ mod-eq_of_lt l ∙ sym (mod-eq_of_lt (omega (arith, l, more))))
      ],
      l,
    )
  where
    below : (s y x p q : ℕ) → s < 2 → q ≡ 2 * p → y < p → x < p → x + s * y < q
    below zero y x p q hs e hy hx = omega (arith, e, hx)
    below (suc zero) y x p q hs e hy hx = omega (arith, e, hx, hy)
    below (suc (suc s)) y x p q hs e hy hx = absurd (omega (arith, hs))

row_long : (e w u j : ℕ) (a b before : List Slice) → j < row_width e w j → j / 8 ≤ length before → length (product_row e w a b j before u).slices ≡ slices_of (row_width e w j)
row_long e w u j a b before hj long =
    let f : ℕ → Cell = λ i. row_cell e w a b j before (j / 8 + i) in
    let n : ℕ = slices_of (row_width e w j) - j / 8 in
    length-append (take (j / 8) before) (places Style.ByEntry u 4 0 (each n f)) ∙ ap₂ (λ (i k : ℕ). i + k) (length-taken (j / 8) before long) (length-places Style.ByEntry u 4 0 (each n f) ∙ length-each f n) ∙ omega (arith, hj)

-- n rows from row j on
pub record Rows (r : Reading) (e v j n : ℕ) (a b before last : List Slice) : Type 0 where
  pub number : shown r last ≡ (shown r before + (shown r b / 2 ^ j % 2 ^ n) * (shown r a * 2 ^ j)) % 2 ^ e
  pub long : 1 ≤ n → length last ≡ slices_of (min e (v + (j + n)))

rows_show : (r : Reading) (e v u j n : ℕ) (a b before : List Slice) → j + n ≤ e → AreBytes r → AreOperands u a → AreOperands u b → AreOperands u before → j / 8 ≤ length before → shown r a < 2 ^ v → shown r before < 2 ^ (v + j) → shown r before < 2 ^ e → Has r u (in_turn (product_row e v a b) j n before u).units → Rows r e v j n a b before (in_turn (product_row e v a b) j n before u).slices
rows_show r e v u j zero a b before hn bs ka kb kp long la lp le has =
    let z : shown r b / 2 ^ j % 2 ^ 0 ≡ 0 = omega arith in
    let w : shown r before + (shown r b / 2 ^ j % 2 ^ 0) * (shown r a * 2 ^ j) ≡ shown r before = ap (λ (i : ℕ). shown r before + i * (shown r a * 2 ^ j)) z ∙ omega arith in
    record { number = sym (ap (λ (i : ℕ). i % 2 ^ e) w ∙ mod-eq_of_lt le); long = λ l. absurd (omega (arith, l)) }
rows_show r e v u j (suc n) a b before hn bs ka kb kp long la lp le has =
    let m : ℕ = row_width e v j in
    let x : ℕ = shown r before in
    let y : ℕ = shown r a in
    let z : ℕ = shown r b in
    let s : ℕ = z / 2 ^ j % 2 in
    let row : Part = product_row e v a b j before u in
    let next : List Slice = row.slices in
    let t : ℕ = u + length row.units in
    let both = then_has r u (product_row e v a b j before) (in_turn (product_row e v a b) (j + 1) n) has in
    let hj : j < m = omega (arith, hn) in
    let ba : Bytes r a = operand_bytes r u a bs ka in
    let bb : Bytes r b = operand_bytes r u b bs kb in
    let bp : Bytes r before = operand_bytes r u before bs kp in
    let good : GoodPart u row = (good_row u e v a b ka kb).at j u before (omega arith) kp in
    let one : shown r next ≡ (x + s * (y * 2 ^ j)) % 2 ^ m = row_shows r e v u j a b before hj bs ba bb bp long both.0 in
    let cut = row_cut e v j x y s lp la (omega arith) in
    let at : shown r next ≡ (x + s * (y * 2 ^ j)) % 2 ^ e = one ∙ cut.0 in
    let jp : v + (j + 1) ≡ v + suc j = omega arith in
    let small : shown r next < 2 ^ (v + (j + 1)) = less (x + s * (y * 2 ^ j)) e (v + (j + 1)) at (subst (λ (i : ℕ). x + s * (y * 2 ^ j) < 2 ^ i) (sym jp) cut.1) in
    let few : shown r next < 2 ^ e = subst (λ (i : ℕ). i < 2 ^ e) (sym at) (mod-lt (x + s * (y * 2 ^ j)) (pow_pos e)) in
    let len : length next ≡ slices_of m = row_long e v u j a b before hj long in
    let ih = rows_show r e v t (j + 1) n a b next (omega (arith, hn)) bs (operands_more u t a (omega arith) ka) (operands_more u t b (omega arith) kb) good.slices (omega (arith, len, hn)) la small few both.1 in
    let k : ℕ = z / 2 ^ (j + 1) % 2 ^ n in
    let p : 2 ^ (j + 1) ≡ 2 ^ j * 2 = pow-add 2 j 1 ∙ omega arith in
    let up : z / 2 ^ (j + 1) ≡ z / 2 ^ j / 2 = ap (λ (i : ℕ). z / i) p ∙ sym (div-div-eq-div-mul z (2 ^ j) 2) in
    let two : z / 2 ^ j % 2 ^ suc n ≡ s + 2 * k = split (z / 2 ^ j) n ∙ ap (λ (i : ℕ). s + 2 * (i % 2 ^ n)) (sym up) in
    let w : ℕ = k * (y * 2 ^ (j + 1)) in
    let whole : x + s * (y * 2 ^ j) + w ≡ x + (z / 2 ^ j % 2 ^ suc n) * (y * 2 ^ j) = spread x s k y (2 ^ j) (2 ^ (j + 1)) p ∙ ap (λ (i : ℕ). x + i * (y * 2 ^ j)) (sym two) in
    record {
      number = ih.number ∙ ap (λ (i : ℕ). (i + w) % 2 ^ e) at ∙ add-mod ((x + s * (y * 2 ^ j)) % 2 ^ e) w (2 ^ e) ∙ ap (λ (i : ℕ). (i + w % 2 ^ e) % 2 ^ e) (mod-mod (x + s * (y * 2 ^ j)) (2 ^ e)) ∙ sym (add-mod (x + s * (y * 2 ^ j)) w (2 ^ e)) ∙ ap (λ (i : ℕ). i % 2 ^ e) whole;
      long = λ l. last n len ih.long;
    }
  where
    less : (n e k : ℕ) {i : ℕ} → i ≡ n % 2 ^ e → n < 2 ^ k → i < 2 ^ k
    less n e k e1 l = let s : n % 2 ^ e ≤ n = omega arith in omega (arith, e1, s, l)

    split : (a n : ℕ) → a % 2 ^ suc n ≡ a % 2 + 2 * (a / 2 % 2 ^ n)
    split a n =
        let p : 2 ^ suc n ≡ 2 * 2 ^ n = omega arith in
        ap₂ (λ (i j : ℕ). i % j) (sym (mod-add-div a 2)) p ∙ mod_scaled (a % 2) 2 (a / 2) (2 ^ n) (omega arith) (pow_pos n)

    spread : (x s k y a b : ℕ) → b ≡ a * 2 → x + s * (y * a) + k * (y * b) ≡ x + (s + 2 * k) * (y * a)
    spread x s k y a b e = ap (λ (i : ℕ). x + s * (y * a) + k * (y * i)) e ∙ omega arith

    last : (n : ℕ) → length (product_row e v a b j before u).slices ≡ slices_of (row_width e v j) → (1 ≤ n → length (in_turn (product_row e v a b) (j + 1) n (product_row e v a b j before u).slices (u + length (product_row e v a b j before u).units)).slices ≡ slices_of (min e (v + (j + 1 + n)))) → length (in_turn (product_row e v a b) (j + 1) n (product_row e v a b j before u).slices (u + length (product_row e v a b j before u).units)).slices ≡ slices_of (min e (v + (j + suc n)))
    last zero len ih = len ∙ ap slices_of (omega arith)
    last (suc n) len ih = ih (omega arith) ∙ ap slices_of (omega arith)

-- the whole product
pub product_shows : (r : Reading) (u e wa wb : ℕ) (a b : List Slice) → 1 ≤ e → 1 ≤ wb → AreBytes r → AreOperands u a → AreOperands u b → shown r a < 2 ^ wa → shown r b < 2 ^ wb → Has r u (product e a wa b wb u).units → (shown r (product e a wa b wb u).slices ≡ (shown r a * shown r b) % 2 ^ e) × (length (product e a wa b wb u).slices ≡ slices_of (min e (wa + min wb e)))
product_shows r u e wa wb a b some sb bs ka kb la lb has =
    let y : ℕ = shown r a in
    let z : ℕ = shown r b in
    let m = rows_show r e wa u 0 (min wb e) a b [] (omega arith) bs ka kb tt (omega arith) la (pow_pos (wa + 0)) (pow_pos e) has in
    let one : z / 2 ^ 0 ≡ z = omega arith in
    let f : 0 + (z / 2 ^ 0 % 2 ^ min wb e) * (y * 2 ^ 0) ≡ y * (z % 2 ^ min wb e) = ap (λ (i : ℕ). 0 + (i % 2 ^ min wb e) * (y * 2 ^ 0)) one ∙ turn (z % 2 ^ min wb e) y in (
      m.number ∙ ap (λ (i : ℕ). i % 2 ^ e) f ∙ elim (cases_lt e wb) [
        | inl l ↦ (let q : min wb e ≡ e = omega (arith, l) in ap (λ (i : ℕ). y * (z % 2 ^ i) % 2 ^ e) q ∙ mul-mod_second y z (2 ^ e))
        | inr g ↦ (let q : min wb e ≡ wb = omega (arith, g) in ap (λ (i : ℕ). y * (z % 2 ^ i) % 2 ^ e) q ∙ ap (λ (i : ℕ). y * i % 2 ^ e) (mod-eq_of_lt lb))
      ],
      (let o : 0 + min wb e ≡ min wb e = omega arith in m.long (omega (arith, some, sb)) ∙ ap (λ (i : ℕ). slices_of (min e (wa + i))) o),
    )
  where
    turn : (k y : ℕ) → 0 + k * (y * 2 ^ 0) ≡ y * k
    turn k y = let o : y * 2 ^ 0 ≡ y = omega arith in ap (λ (i : ℕ). 0 + k * i) o ∙ omega arith
