-- Parts whose units read earlier units alone, and how parts are joined.
use Rattle.std.proofs.Common.{◌≡◌, ◌≤◌, ℕ, zero, suc, ◌+◌, List, [], ◌∷◌, ◌++◌, length, subst, arith, length-append}
use Rattle.pr_net.specs.declared.cells.Slice.{Slice}
use Rattle.pr_net.specs.declared.cells.Cell.{Cell}
use Rattle.pr_net.specs.Order.{AllBefore, AreInOrder, BeginsFresh, HasHead, HaveHeads, AllHaveBytes, UnitsHaveBytes}
use Rattle.pr_cut_units.specs.Cells.{slice_at}
use Rattle.pr_cut_units.specs.Parts.{Part, Making, each, kept, one_unit, followed_by, above, filled, in_turn}
use Rattle.pr_cut_units.proofs.Operands.{AreOperands, operand_at, operands_more, operands-append, operands-each, IsGood, AllGood, all-each}

pub all_before : (v : ℕ) (ks : List Cell) → AllGood v ks → AllBefore v ks
all_before v [] h = tt
all_before v (k ∷ ks) h = (h.0.reads, all_before v ks h.1)

pub all_bytes : (v : ℕ) (ks : List Cell) → AllGood v ks → AllHaveBytes ks
all_bytes v [] h = tt
all_bytes v (k ∷ ks) h = (h.0.bytes, all_bytes v ks h.1)

-- a part that may be made from unit u on: its slices may be read by the units after it
pub record GoodPart (u : ℕ) (p : Part) : Type 0 where
  pub order : AreInOrder u p.units
  pub bytes : UnitsHaveBytes p.units
  pub heads : HaveHeads p.units
  pub slices : AreOperands (u + length p.units) p.slices

pub order-append : (u : ℕ) (us vs : List (List Cell)) → AreInOrder u us → AreInOrder (u + length us) vs → AreInOrder u (us ++ vs)
order-append u [] vs h k = subst (λ (n : ℕ). AreInOrder n vs) (omega arith) k
order-append u (ks ∷ us) vs h k = (h.0, order-append (suc u) us vs h.1 (subst (λ (n : ℕ). AreInOrder n vs) (omega arith) k))

pub bytes-append : (us vs : List (List Cell)) → UnitsHaveBytes us → UnitsHaveBytes vs → UnitsHaveBytes (us ++ vs)
bytes-append [] vs h k = k
bytes-append (ks ∷ us) vs h k = (h.0, bytes-append us vs h.1 k)

pub heads-append : (us vs : List (List Cell)) → HaveHeads us → HaveHeads vs → HaveHeads (us ++ vs)
heads-append [] vs h k = k
heads-append (ks ∷ us) vs h k = (h.0, heads-append us vs h.1 k)

pub good_kept : (u : ℕ) (x : List Slice) → AreOperands u x → GoodPart u (kept x u)
good_kept u x h = record { order = tt; bytes = tt; heads = tt; slices = operands_more u (u + 0) x (omega arith) h }

pub good_unit : (u n : ℕ) (cell : ℕ → Cell) → ((i : ℕ) → IsGood u (cell i)) → ((i : ℕ) → BeginsFresh (cell i).cin) → GoodPart u (one_unit n cell u)
good_unit u n cell h f = record {
  order = (all_before u (each n cell) (all-each u n cell h), tt);
  bytes = (all_bytes u (each n cell) (all-each u n cell h), tt);
  heads = (head n, tt);
  slices = operands-each (u + 1) n (λ i. Slice.Of u i) (λ i. record { before = omega arith; byte = tt });
}
  where
    head : (m : ℕ) → HasHead (each m cell)
    head zero = tt
    head (suc m) = f 0

pub good_then : (u : ℕ) (first : Making) (second : List Slice → Making) → GoodPart u (first u) → GoodPart (u + length (first u).units) (second (first u).slices (u + length (first u).units)) → GoodPart u (followed_by first second u)
good_then u first second p q =
    let us = (first u).units in
    let v = u + length us in
    let vs = (second (first u).slices v).units in
    let long : v + length vs ≡ u + length (us ++ vs) = omega (arith, length-append us vs) in
    record {
      order = order-append u us vs p.order q.order;
      bytes = bytes-append us vs p.bytes q.bytes;
      heads = heads-append us vs p.heads q.heads;
      slices = subst (λ (n : ℕ). AreOperands n (second (first u).slices v).slices) long q.slices;
    }

pub good_above : (u : ℕ) (low : List Slice) (making : Making) → AreOperands u low → GoodPart u (making u) → GoodPart u (above low making u)
good_above u low making h p = record {
  order = p.order;
  bytes = p.bytes;
  heads = p.heads;
  slices = operands-append (u + length (making u).units) low (making u).slices (operands_more u (u + length (making u).units) low (omega arith) h) p.slices;
}

pub good_filled : (u n : ℕ) (making : Making) → GoodPart u (making u) → GoodPart u (filled n making u)
good_filled u n making p = record {
  order = p.order;
  bytes = p.bytes;
  heads = p.heads;
  slices = operands-each (u + length (making u).units) n (slice_at (making u).slices) (λ i. operand_at (u + length (making u).units) (making u).slices i p.slices);
}

-- steps, each good wherever it stands from unit v on, and on any operands that are known there
pub record GoodStep (v : ℕ) (step : ℕ → List Slice → Making) : Type 0 where
  pub at : (j u : ℕ) (x : List Slice) → v ≤ u → AreOperands u x → GoodPart u (step j x u)

pub good_turns : (v u j n : ℕ) (step : ℕ → List Slice → Making) (x : List Slice) → GoodStep v step → v ≤ u → AreOperands u x → GoodPart u (in_turn step j n x u)
good_turns v u j zero step x s l h = good_kept u x h
good_turns v u j (suc n) step x s l h =
    let p = s.at j u x l h in
    good_then u (step j x) (in_turn step (j + 1) n) p (good_turns v (u + length (step j x u).units) (j + 1) n step (step j x u).slices s (omega arith) p.slices)
