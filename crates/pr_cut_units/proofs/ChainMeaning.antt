-- The cuts of a chain are not seen: its cells show what they would show in one unit.
use Rattle.std.proofs.Common.{◌≡◌, ◌<◌, ◌≤◌, ℕ, zero, suc, ◌+◌, ◌*◌, ◌/◌, ◌^◌, ◌==◌, ◌&&◌, true, false, List, [], ◌∷◌, ◌++◌, length, map, get_or, bit_and, refl, sym, ap, ap₂, ◌∙◌, arith, append_assoc}
use Rattle.std.specs.Bool.{if◌then◌else◌}
use Rattle.std.specs.Int.{bit_at}
use Rattle.std.proofs.lemmas.List.{get_or_at, length_push}
use Rattle.pr_base.specs.Pe.{looked_up, of_bits, shifted, carry_in, result_of, carry_out, bit_read}
use Rattle.pr_base.specs.declared.choices.Mode.{Mode}
use Rattle.pr_base.specs.declared.choices.Carry.{Carry}
use Rattle.pr_net.specs.declared.cells.Slice.{Slice}
use Rattle.pr_net.specs.declared.cells.Wire.{Wire}
use Rattle.pr_net.specs.declared.cells.WireBit.{WireBit}
use Rattle.pr_net.specs.declared.cells.Cell.{Cell}
use Rattle.pr_net.specs.Reading.{Reading, wire_byte, wire_bit, cell_byte, cell_carry, outs, carry_after, Has, slice_byte, bytes_shown}
use Rattle.pr_net.specs.Runs.{AreBytes}
use Rattle.pr_net.specs.Order.{IsByte}
use Rattle.pr_net.proofs.RunsLemmas.{wire_small}
use Rattle.pr_cut_units.specs.declared.chains.Style.{Style}
use Rattle.pr_cut_units.specs.Chains.{linked, carry_cell, entry_cell, entry_of, taking, entries, segments, places, place_after}

-- ---- bits of X
bit_small : (n k : ℕ) → bit_at n k ≤ 1
bit_small n k = omega arith

of_bits-lt : (n : ℕ) (bit : ℕ → ℕ) → ((k : ℕ) → bit k ≤ 1) → of_bits n bit < 2 ^ n
of_bits-lt zero bit h = omega arith
of_bits-lt (suc n) bit h = go (bit n) (h n) (of_bits-lt n bit h)
  where
    go : (b : ℕ) → b ≤ 1 → of_bits n bit < 2 ^ n → of_bits n bit + 2 ^ n * b < 2 ^ suc n
    go zero l i = omega (arith, i)
    go (suc zero) l i = omega (arith, i)
    go (suc (suc b)) l i = absurd (omega arith)

pub x_small : (table a b c : ℕ) → looked_up table a b c < 256
unfolding looked_up
x_small table a b c = of_bits-lt 8 (λ k. bit_at table (bit_at a k + 2 * bit_at b k + 4 * c)) (λ k. bit_small table (bit_at a k + 2 * bit_at b k + 4 * c))

-- a table that does not look at C
pub record Steady (table : ℕ) : Type 0 where
  pub same : (a b : ℕ) → looked_up table a b 1 ≡ looked_up table a b 0

steady_at : (t a b c : ℕ) → c ≤ 1 → Steady t → looked_up t a b c ≡ looked_up t a b 0
steady_at t a b zero h s = refl
steady_at t a b (suc zero) h s = s.same a b
steady_at t a b (suc (suc c)) h s = absurd (omega arith)

-- ---- units
pub outs-append : (r : Reading) (xs ys : List Cell) (c : ℕ) → outs r (xs ++ ys) c ≡ outs r xs c ++ outs r ys (carry_after r xs c)
outs-append r [] ys c = refl
outs-append r (x ∷ xs) ys c = ap (λ (t : List ℕ). cell_byte r x c ∷ t) (outs-append r xs ys (cell_carry r x c))

pub after-append : (r : Reading) (xs ys : List Cell) (c : ℕ) → carry_after r (xs ++ ys) c ≡ carry_after r ys (carry_after r xs c)
after-append r [] ys c = refl
after-append r (x ∷ xs) ys c = after-append r xs ys (cell_carry r x c)

pub length-outs : (r : Reading) (xs : List Cell) (c : ℕ) → length (outs r xs c) ≡ length xs
length-outs r [] c = refl
length-outs r (x ∷ xs) c = ap suc (length-outs r xs (cell_carry r x c))

-- the byte of the cell after these in a row
pub at_place : (r : Reading) (cells : List Cell) (k : Cell) (rest : List Cell) (row : List ℕ) → row ≡ outs r (cells ++ k ∷ rest) 0 → get_or row (length cells) 0 ≡ cell_byte r k (carry_after r cells 0)
at_place r cells k rest row e = rw (e, outs-append r cells (k ∷ rest) 0) (get_or_at (outs r cells 0) (cell_byte r k (carry_after r cells 0)) _ 0 (length cells) (length-outs r cells 0))

-- ---- carries are at most 1
sum_carry : (a x cin : ℕ) → a < 256 → x < 256 → cin ≤ 1 → (a + x + cin) / 256 ≤ 1
sum_carry a x cin ha hx hc = omega arith

carry_out_small : (m : Mode) (a x cin : ℕ) → a < 256 → x < 256 → cin ≤ 1 → carry_out m a x cin ≤ 1
carry_out_small Mode.Plain a x cin ha hx hc = omega arith
carry_out_small Mode.Sum a x cin ha hx hc = sum_carry a x cin ha hx hc
carry_out_small Mode.Zero a x cin ha hx hc = elim (cin == 1 && x == 0) as (λ t. (if t then 1 else 0) ≤ 1) [ true ↦ omega arith | false ↦ omega arith ]

read_small : (r : Reading) (b : WireBit) → bit_read (wire_bit r b) ≤ 1
read_small r WireBit.None = omega arith
read_small r (WireBit.Of w k) = bit_small (wire_byte r w) k
read_small r WireBit.CarryIn = omega arith

carry_in_small : (x : Carry) (below c : ℕ) → below ≤ 1 → c ≤ 1 → carry_in x below c ≤ 1
carry_in_small Carry.Zero below c h l = omega arith
carry_in_small Carry.One below c h l = omega arith
carry_in_small Carry.Chain below c h l = h
carry_in_small Carry.FromC below c h l = l

pub carry_small : (r : Reading) (k : Cell) (c : ℕ) → AreBytes r → IsByte k.a → c ≤ 1 → cell_carry r k c ≤ 1
carry_small r k c b h l = carry_out_small k.mode (wire_byte r k.a) _ _ (wire_small r b k.a h) (x_small k.table _ _ _) (carry_in_small k.cin c _ l (read_small r k.c))

-- cells whose A is a byte
abbrev pub ReadBytes : List Cell → Type 0
ReadBytes [] = Unit {0}
ReadBytes (k ∷ ks) = IsByte k.a × ReadBytes ks

read-append : (xs ys : List Cell) → ReadBytes xs → ReadBytes ys → ReadBytes (xs ++ ys)
read-append [] ys h k = k
read-append (x ∷ xs) ys h k = (h.0, read-append xs ys h.1 k)

pub after_small : (r : Reading) (ks : List Cell) (c : ℕ) → AreBytes r → ReadBytes ks → c ≤ 1 → carry_after r ks c ≤ 1
after_small r [] c b h l = l
after_small r (k ∷ ks) c b h l = after_small r ks (cell_carry r k c) b h.1 (carry_small r k c b h.0 l)

-- a carry cell shows the carry
pub carry_shown : (r : Reading) (c : ℕ) → c ≤ 1 → cell_byte r carry_cell c ≡ c
unfolding looked_up
carry_shown r zero h = refl
carry_shown r (suc zero) h = refl
carry_shown r (suc (suc c)) h = absurd (omega arith)

-- the entry cell hands on the carry that its wire shows
entry_carry : (r : Reading) (w : Wire) (c : ℕ) → c ≤ 1 → wire_byte r w ≡ c → cell_carry r (entry_cell w) 0 ≡ c
unfolding looked_up
entry_carry r w zero h e = rw e refl
entry_carry r w (suc zero) h e = rw e refl
entry_carry r w (suc (suc c)) h e = absurd (omega arith)

-- ---- how a later segment takes the carry
-- what a style asks of a cell: where the carry comes by C, the cell has no C and its table does not look at it
pub record SuitsBit (k : Cell) : Type 0 where
  pub none : k.c ≡ WireBit.None
  pub steady : Steady k.table

abbrev pub Suits : Style → Cell → Type 0
Suits Style.ByBit k = SuitsBit k
Suits Style.ByEntry k = Unit {0}

abbrev pub AllSuit : Style → List Cell → Type 0
AllSuit s [] = Unit {0}
AllSuit s (k ∷ ks) = (Suits s k × IsByte k.a) × AllSuit s ks

abbrev pub chained : Cell → Cell
chained k = record k { cin = Carry.Chain }

pub record Taken (s : Style) (r : Reading) (w : Wire) (k : Cell) (c : ℕ) : Type 0 where
  pub byte : cell_byte r (taking s w (chained k)) (carry_after r (entry_of s w) 0) ≡ cell_byte r (chained k) c
  pub carry : cell_carry r (taking s w (chained k)) (carry_after r (entry_of s w) 0) ≡ cell_carry r (chained k) c

bit_of_carry : (x c : ℕ) → c ≤ 1 → x ≡ c → bit_at x 0 ≡ c
bit_of_carry x c h e = omega arith

pub taken : (s : Style) (r : Reading) (w : Wire) (k : Cell) (c : ℕ) → c ≤ 1 → wire_byte r w ≡ c → Suits s k → Taken s r w k c
taken Style.ByBit r w k c h e t =
    let a = wire_byte r k.a in
    let b = shifted (wire_byte r k.hi) (wire_byte r k.lo) k.shift in
    let bit : bit_at (wire_byte r w) 0 ≡ c = bit_of_carry (wire_byte r w) c h e in
    let x : looked_up k.table a b c ≡ looked_up k.table a b 0 = steady_at k.table a b c h t.steady in
    record {
      byte = rw (bit, t.none) (ap (λ (y : ℕ). bit_and (result_of k.mode a y c) k.mask) x);
      carry = rw (bit, t.none) (ap (λ (y : ℕ). carry_out k.mode a y c) x);
    }
taken Style.ByEntry r w k c h e t = record {
  byte = ap (cell_byte r (chained k)) (entry_carry r w c h e);
  carry = ap (cell_carry r (chained k)) (entry_carry r w c h e);
}

length-entry : (s : Style) (w : Wire) → length (entry_of s w) ≡ entries s
length-entry Style.ByBit w = refl
length-entry Style.ByEntry w = refl

read_entry : (s : Style) (u i : ℕ) (k : Cell) → IsByte k.a → ReadBytes (entry_of s (Wire.Of u i) ++ taking s (Wire.Of u i) (chained k) ∷ [])
read_entry Style.ByBit u i k h = (h, tt)
read_entry Style.ByEntry u i k h = (tt, (h, tt))

-- unit u begins with these cells
pub begins : (s : Style) (r : Reading) (u room : ℕ) (cells close ks : List Cell) → Has r u (segments s u room cells close ks) → (rest : List Cell) × (get_or r.rows u [] ≡ outs r (cells ++ rest) 0)
begins s r u room cells close [] h = (close, h.0)
begins s r u zero cells close (k ∷ ks) h = (carry_cell ∷ [], h.0)
begins s r u (suc room) cells close (k ∷ ks) h =
    let b = begins s r u room (cells ++ k ∷ []) close ks h in
    (k ∷ b.0, b.1 ∙ ap (λ (t : List Cell). outs r t 0) (append_assoc cells (k ∷ []) b.0))

pub unseen : (s : Style) (r : Reading) (u room : ℕ) (cells close ks : List Cell) → AreBytes r → ReadBytes cells → AllSuit s ks → Has r u (segments s u room cells close (map chained ks)) → bytes_shown r (places s u room (length cells) (map chained ks)) ≡ outs r (map chained ks) (carry_after r cells 0)
unseen s r u room cells close [] b m t h = refl
unseen s r u zero cells close (k ∷ ks) b m t h =
    let c : ℕ = carry_after r cells 0 in
    let w : Wire = Wire.Of u (length cells) in
    let small : c ≤ 1 = after_small r cells 0 b m (omega arith) in
    let shown : wire_byte r w ≡ c = at_place r cells carry_cell [] _ h.0 ∙ carry_shown r c small in
    let first : Cell = taking s w (chained k) in
    let start : List Cell = entry_of s w ++ first ∷ [] in
    let took : Taken s r w k c = taken s r w k c small shown t.0.0 in
    let p = begins s r (suc u) 3 start close (map chained ks) h.1 in
    let row : get_or r.rows (suc u) [] ≡ outs r (entry_of s w ++ first ∷ p.0) 0 = p.1 ∙ ap (λ (x : List Cell). outs r x 0) (append_assoc (entry_of s w) (first ∷ []) p.0) in
    let head : wire_byte r (Wire.Of (suc u) (entries s)) ≡ cell_byte r (chained k) c = ap (λ (i : ℕ). get_or (get_or r.rows (suc u) []) i 0) (sym (length-entry s w)) ∙ at_place r (entry_of s w) first p.0 _ row ∙ took.byte in
    let long : length start ≡ suc (entries s) = length_push (entry_of s w) first ∙ omega (arith, length-entry s w) in
    let after : carry_after r start 0 ≡ cell_carry r (chained k) c = after-append r (entry_of s w) (first ∷ []) 0 ∙ took.carry in
    let ih = unseen s r (suc u) 3 start close ks b (read_entry s u (length cells) k t.0.1) t.1 h.1 in
    ap₂ (λ (x : ℕ) (xs : List ℕ). x ∷ xs) head (ap (λ (i : ℕ). bytes_shown r (places s (suc u) 3 i (map chained ks))) (sym long) ∙ ih ∙ ap (outs r (map chained ks)) after)
unseen s r u (suc room) cells close (k ∷ ks) b m t h =
    let p = begins s r u room (cells ++ chained k ∷ []) close (map chained ks) h in
    let long : length (cells ++ chained k ∷ []) ≡ suc (length cells) = length_push cells (chained k) ∙ omega arith in
    let head : wire_byte r (Wire.Of u (length cells)) ≡ cell_byte r (chained k) (carry_after r cells 0) = at_place r cells (chained k) p.0 _ (p.1 ∙ ap (λ (x : List Cell). outs r x 0) (append_assoc cells (chained k ∷ []) p.0)) in
    let ih = unseen s r u room (cells ++ chained k ∷ []) close ks b (read-append cells (chained k ∷ []) m (t.0.1, tt)) t.1 h in
    ap₂ (λ (x : ℕ) (xs : List ℕ). x ∷ xs) head
    (rw (← long) (ih ∙ ap (outs r (map chained ks)) (after-append r cells (chained k ∷ []) 0)))

-- the cell that closes a chain reads the carry of all of it
pub unseen_end : (s : Style) (r : Reading) (u room : ℕ) (cells ks : List Cell) (q : Cell) → AreBytes r → ReadBytes cells → AllSuit s ks → Has r u (segments s u room cells (q ∷ []) (map chained ks)) → slice_byte r (place_after s u room (length cells) (map chained ks)) ≡ cell_byte r q (carry_after r (map chained ks) (carry_after r cells 0))
unseen_end s r u room cells [] q b m t h = at_place r cells q [] _ h.0
unseen_end s r u zero cells (k ∷ ks) q b m t h =
    let c : ℕ = carry_after r cells 0 in
    let w : Wire = Wire.Of u (length cells) in
    let small : c ≤ 1 = after_small r cells 0 b m (omega arith) in
    let shown : wire_byte r w ≡ c = at_place r cells carry_cell [] _ h.0 ∙ carry_shown r c small in
    let first : Cell = taking s w (chained k) in
    let start : List Cell = entry_of s w ++ first ∷ [] in
    let took : Taken s r w k c = taken s r w k c small shown t.0.0 in
    let long : length start ≡ suc (entries s) = length_push (entry_of s w) first ∙ omega (arith, length-entry s w) in
    let after : carry_after r start 0 ≡ cell_carry r (chained k) c = after-append r (entry_of s w) (first ∷ []) 0 ∙ took.carry in
    let ih = unseen_end s r (suc u) 3 start ks q b (read_entry s u (length cells) k t.0.1) t.1 h.1 in
    ap (λ (i : ℕ). slice_byte r (place_after s (suc u) 3 i (map chained ks))) (sym long) ∙ ih ∙ ap (λ (x : ℕ). cell_byte r q (carry_after r (map chained ks) x)) after
unseen_end s r u (suc room) cells (k ∷ ks) q b m t h =
    let long : length (cells ++ chained k ∷ []) ≡ suc (length cells) = length_push cells (chained k) ∙ omega arith in
    let ih = unseen_end s r u room (cells ++ chained k ∷ []) ks q b (read-append cells (chained k ∷ []) m (t.0.1, tt)) t.1 h in
    ap (λ (i : ℕ). slice_byte r (place_after s u room i (map chained ks))) (sym long) ∙ ih ∙ ap (λ (x : ℕ). cell_byte r q (carry_after r (map chained ks) x)) (after-append r cells (chained k ∷ []) 0)

-- ---- a chain from its first cell on
abbrev pub begin_bit : Carry → ℕ
begin_bit Carry.Zero = 0
begin_bit Carry.One = 1
begin_bit Carry.Chain = 0
begin_bit Carry.FromC = 0

begin_byte : (r : Reading) (first : Carry) (k : Cell) → k.c ≡ WireBit.None → cell_byte r (record k { cin = first }) 0 ≡ cell_byte r (chained k) (begin_bit first)
begin_byte r Carry.Zero k h = rw h refl
begin_byte r Carry.One k h = rw h refl
begin_byte r Carry.Chain k h = rw h refl
begin_byte r Carry.FromC k h = rw h refl

begin_carry : (r : Reading) (first : Carry) (k : Cell) → k.c ≡ WireBit.None → cell_carry r (record k { cin = first }) 0 ≡ cell_carry r (chained k) (begin_bit first)
begin_carry r Carry.Zero k h = rw h refl
begin_carry r Carry.One k h = rw h refl
begin_carry r Carry.Chain k h = rw h refl
begin_carry r Carry.FromC k h = rw h refl

-- a chain that takes the carry by C shows what its cells show, linked, from the carry that it begins with
pub chain_shows : (r : Reading) (u : ℕ) (first : Carry) (close cells : List Cell) → AreBytes r → AllSuit Style.ByBit cells → Has r u (segments Style.ByBit u 4 [] close (linked first cells)) → bytes_shown r (places Style.ByBit u 4 0 cells) ≡ outs r (map chained cells) (begin_bit first)
chain_shows r u first close [] b t h = refl
chain_shows r u first close (k ∷ ks) b t h =
    let p = begins Style.ByBit r u 3 (record k { cin = first } ∷ []) close (map chained ks) h in
    let head : wire_byte r (Wire.Of u 0) ≡ cell_byte r (record k { cin = first }) 0 = at_place r [] (record k { cin = first }) p.0 _ p.1 in
    ap₂ (λ (x : ℕ) (xs : List ℕ). x ∷ xs) (head ∙ begin_byte r first k t.0.0.none)
    (ap (bytes_shown r) (same_places Style.ByBit u 3 1 ks) ∙ unseen Style.ByBit r u 3 (record k { cin = first } ∷ []) close ks b (t.0.1, tt) t.1 h ∙ ap (outs r (map chained ks)) (begin_carry r first k t.0.0.none))
  where
    same_places : (s : Style) (u room place : ℕ) (ks : List Cell) → places s u room place ks ≡ places s u room place (map chained ks)
    same_places s u room place [] = refl
    same_places s u zero place (k ∷ ks) = ap (λ (x : List Slice). Slice.Of (suc u) (entries s) ∷ x) (same_places s (suc u) 3 (suc (entries s)) ks)
    same_places s u (suc room) place (k ∷ ks) = ap (λ (x : List Slice). Slice.Of u place ∷ x) (same_places s u room (suc place) ks)
