-- Chains: their units read earlier units alone, begin without a carry, and are as many as their cells need.
use Rattle.std.proofs.Common.{◌≡◌, ◌<◌, ◌≤◌, ℕ, zero, suc, ◌+◌, ◌-◌, ◌/◌, List, [], ◌∷◌, ◌++◌, length, map, subst, refl, ap, ◌∙◌, arith}
use Rattle.pr_base.specs.declared.choices.Carry.{Carry}
use Rattle.pr_net.specs.declared.cells.Wire.{Wire}
use Rattle.pr_net.specs.declared.cells.WireBit.{WireBit}
use Rattle.pr_net.specs.declared.cells.Cell.{Cell}
use Rattle.pr_net.specs.Order.{IsBefore, IsBitBefore, AreInOrder, BeginsFresh, HasHead, HaveHeads, UnitsHaveBytes}
use Rattle.pr_cut_units.specs.declared.chains.Style.{Style}
use Rattle.pr_cut_units.specs.Chains.{linked, carried, carry_cell, entry_cell, entry_of, taking, entries, segments, places, place_after, chain, closed_chain}
use Rattle.pr_cut_units.proofs.Operands.{AreOperands, IsGood, AllGood, source_more, before_more}
use Rattle.pr_cut_units.proofs.GoodParts.{GoodPart, all_before, all_bytes}

good_more : (v n : ℕ) (k : Cell) → v ≤ n → IsGood v k → IsGood n k
good_more v n k l g = record {
  reads = record {
    a = (source_more v n k.a l (record { before = g.reads.a; byte = g.bytes.a })).before;
    hi = before_wire k.hi g.reads.hi;
    lo = before_wire k.lo g.reads.lo;
    c = before_bit k.c g.reads.c;
  };
  bytes = g.bytes;
}
  where
    before_wire : (w : Wire) → IsBefore v w → IsBefore n w
    before_wire w h = before_more v n l w h

    before_bit : (b : WireBit) → IsBitBefore v b → IsBitBefore n b
    before_bit WireBit.None h = tt
    before_bit (WireBit.Of w i) h = before_more v n l w h
    before_bit WireBit.CarryIn h = tt

pub all_good_more : (v n : ℕ) (ks : List Cell) → v ≤ n → AllGood v ks → AllGood n ks
all_good_more v n [] l h = tt
all_good_more v n (k ∷ ks) l h = (good_more v n k l h.0, all_good_more v n ks l h.1)

good-append : (v : ℕ) (xs ys : List Cell) → AllGood v xs → AllGood v ys → AllGood v (xs ++ ys)
good-append v [] ys h k = k
good-append v (x ∷ xs) ys h k = (h.0, good-append v xs ys h.1 k)

good_carry : (v : ℕ) (cin : Carry) (k : Cell) → IsGood v k → IsGood v (record k { cin = cin })
good_carry v cin k g = record { reads = record { a = g.reads.a; hi = g.reads.hi; lo = g.reads.lo; c = g.reads.c }; bytes = record { a = g.bytes.a; mask = g.bytes.mask; init = g.bytes.init } }

good_linked : (v : ℕ) (first : Carry) (ks : List Cell) → AllGood v ks → AllGood v (linked first ks)
good_linked v first [] h = tt
good_linked v first (k ∷ ks) h = (good_carry v first k h.0, go ks h.1)
  where
    go : (ks : List Cell) → AllGood v ks → AllGood v (map (λ (k : Cell). record k { cin = Carry.Chain }) ks)
    go [] h = tt
    go (k ∷ ks) h = (good_carry v Carry.Chain k h.0, go ks h.1)

good_carried : (v table : ℕ) → IsGood v (carried table)
good_carried v table = record { reads = record { a = tt; hi = tt; lo = tt; c = tt }; bytes = record { a = omega arith; mask = omega arith; init = omega arith } }

-- how a segment after unit u begins
good_start : (s : Style) (u i : ℕ) (k : Cell) → IsGood u k → AllGood (suc u) (entry_of s (Wire.Of u i) ++ taking s (Wire.Of u i) k ∷ [])
good_start Style.ByBit u i k g =
    let m = good_more u (suc u) k (omega arith) g in
    (record { reads = record { a = m.reads.a; hi = m.reads.hi; lo = m.reads.lo; c = omega arith }; bytes = record { a = m.bytes.a; mask = m.bytes.mask; init = m.bytes.init } }, tt)
good_start Style.ByEntry u i k g =
    (record { reads = record { a = omega arith; hi = tt; lo = tt; c = tt }; bytes = record { a = tt; mask = omega arith; init = omega arith } }, (good_more u (suc u) k (omega arith) g, tt))

-- the units from u on, where the first one has these cells already
pub record GoodUnits (u : ℕ) (units : List (List Cell)) : Type 0 where
  pub order : AreInOrder u units
  pub bytes : UnitsHaveBytes units
  pub heads : HaveHeads units

one_good : (u : ℕ) (ks : List Cell) (rest : List (List Cell)) → AllGood u ks → HasHead ks → GoodUnits (suc u) rest → GoodUnits u (ks ∷ rest)
one_good u ks rest g h r = record { order = (all_before u ks g, r.order); bytes = (all_bytes u ks g, r.bytes); heads = (h, r.heads) }

no_units : (u : ℕ) → GoodUnits u []
no_units u = record { order = tt; bytes = tt; heads = tt }

-- a first cell that takes no carry, and cells after it
segments_good : (s : Style) (u room : ℕ) (k : Cell) (cells close ks : List Cell) → BeginsFresh k.cin → ((v : ℕ) → AllGood v close) → AllGood u (k ∷ cells) → AllGood u ks → GoodUnits u (segments s u room (k ∷ cells) close ks)
segments_good s u room k cells close [] f hc ha hk = one_good u (k ∷ cells ++ close) [] (ha.0, good-append u cells close ha.1 (hc u)) f (no_units (suc u))
segments_good Style.ByBit u zero k cells close (x ∷ ks) f hc ha hk =
    let w : Wire = Wire.Of u (length (k ∷ cells)) in
    one_good u (k ∷ cells ++ carry_cell ∷ []) _ (ha.0, good-append u cells (carry_cell ∷ []) ha.1 (good_carried u 240, tt)) f
    (segments_good Style.ByBit (suc u) 3 (taking Style.ByBit w x) [] close ks tt hc (good_start Style.ByBit u (length (k ∷ cells)) x hk.0) (all_good_more u (suc u) ks (omega arith) hk.1))
segments_good Style.ByEntry u zero k cells close (x ∷ ks) f hc ha hk =
    let w : Wire = Wire.Of u (length (k ∷ cells)) in
    one_good u (k ∷ cells ++ carry_cell ∷ []) _ (ha.0, good-append u cells (carry_cell ∷ []) ha.1 (good_carried u 240, tt)) f
    (segments_good Style.ByEntry (suc u) 3 (entry_cell w) (x ∷ []) close ks tt hc (good_start Style.ByEntry u (length (k ∷ cells)) x hk.0) (all_good_more u (suc u) ks (omega arith) hk.1))
segments_good s u (suc room) k cells close (x ∷ ks) f hc ha hk = segments_good s u room k (cells ++ x ∷ []) close ks f hc (ha.0, good-append u cells (x ∷ []) ha.1 (hk.0, tt)) hk.1

-- ---- how many units, and the places of the slices among them
pub segments_count : (s : Style) (u room : ℕ) (cells close ks : List Cell) → room ≤ 3 → length (segments s u room cells close ks) ≡ 1 + (length ks + 3 - room) / 4
segments_count s u room cells close [] h = omega arith
segments_count s u zero cells close (k ∷ ks) h = omega (arith, segments_count s (suc u) 3 (entry_of s (Wire.Of u (length cells)) ++ taking s (Wire.Of u (length cells)) k ∷ []) close ks (omega arith))
segments_count s u (suc room) cells close (k ∷ ks) h = omega (arith, segments_count s u room (cells ++ k ∷ []) close ks (omega arith))

length-linked : (first : Carry) (ks : List Cell) → length (linked first ks) ≡ length ks
length-linked first [] = refl
length-linked first (k ∷ ks) = ap suc (go ks)
  where
    go : (ks : List Cell) → length (map (λ (k : Cell). record k { cin = Carry.Chain }) ks) ≡ length ks
    go [] = refl
    go (k ∷ ks) = ap suc (go ks)

pub chain_count_is : (s : Style) (u : ℕ) (first : Carry) (close cells : List Cell) → 0 < length cells → length (segments s u 4 [] close (linked first cells)) ≡ (length cells + 3) / 4
chain_count_is s u first close [] h = absurd (omega arith)
chain_count_is s u first close (k ∷ ks) h = segments_count s u 3 (record k { cin = first } ∷ []) close _ (omega arith) ∙ omega (arith, length-linked first (k ∷ ks))

places_operands : (s : Style) (u room place : ℕ) (ks : List Cell) → room ≤ 3 → AreOperands (u + (1 + (length ks + 3 - room) / 4)) (places s u room place ks)
places_operands s u room place [] h = tt
places_operands s u zero place (k ∷ ks) h = (
  record { before = omega arith; byte = tt },
  subst (λ (n : ℕ). AreOperands n (places s (suc u) 3 (suc (entries s)) ks)) (omega arith) (places_operands s (suc u) 3 (suc (entries s)) ks (omega arith)),
)
places_operands s u (suc room) place (k ∷ ks) h = (
  record { before = omega arith; byte = tt },
  subst (λ (n : ℕ). AreOperands n (places s u room (suc place) ks)) (omega arith) (places_operands s u room (suc place) ks (omega arith)),
)

after_operand : (s : Style) (u room place : ℕ) (ks : List Cell) → room ≤ 3 → AreOperands (u + (1 + (length ks + 3 - room) / 4)) (place_after s u room place ks ∷ [])
after_operand s u room place [] h = (record { before = omega arith; byte = tt }, tt)
after_operand s u zero place (k ∷ ks) h = subst (λ (n : ℕ). AreOperands n (place_after s (suc u) 3 (suc (entries s)) ks ∷ [])) (omega arith) (after_operand s (suc u) 3 (suc (entries s)) ks (omega arith))
after_operand s u (suc room) place (k ∷ ks) h = subst (λ (n : ℕ). AreOperands n (place_after s u room (suc place) ks ∷ [])) (omega arith) (after_operand s u room (suc place) ks (omega arith))

pub good_chain : (u : ℕ) (s : Style) (first : Carry) (cells : List Cell) → BeginsFresh first → AllGood u cells → GoodPart u (chain s first cells u)
good_chain u s first [] f h = record { order = (tt, tt); bytes = (tt, tt); heads = (tt, tt); slices = tt }
good_chain u s first (k ∷ ks) f h =
    let some : 0 < length (k ∷ ks) = omega arith in
    let l = good_linked u first (k ∷ ks) h in
    let g = segments_good s u 3 (record k { cin = first }) [] [] _ f (λ v. tt) (l.0, tt) l.1 in
    record {
      order = g.order;
      bytes = g.bytes;
      heads = g.heads;
      slices = (
        record { before = omega (arith, chain_count_is s u first [] (k ∷ ks) some); byte = tt },
        subst (λ (n : ℕ). AreOperands n (places s u 3 1 ks)) (omega (arith, chain_count_is s u first [] (k ∷ ks) some)) (places_operands s u 3 1 ks (omega arith)),
      );
    }

pub good_closed : (u : ℕ) (first : Carry) (table : ℕ) (cells : List Cell) → 0 < length cells → BeginsFresh first → AllGood u cells → GoodPart u (closed_chain first table cells u)
good_closed u first table [] some f h = absurd (omega arith)
good_closed u first table (k ∷ ks) some f h =
    let l = good_linked u first (k ∷ ks) h in
    let g = segments_good Style.ByBit u 3 (record k { cin = first }) [] (carried table ∷ []) _ f (λ v. (good_carried v table, tt)) (l.0, tt) l.1 in
    record {
      order = g.order;
      bytes = g.bytes;
      heads = g.heads;
      slices = subst (λ (n : ℕ). AreOperands n (place_after Style.ByBit u 3 1 ks ∷ [])) (omega (arith, chain_count_is Style.ByBit u first (carried table ∷ []) (k ∷ ks) some)) (after_operand Style.ByBit u 3 1 ks (omega arith));
    }
