-- Cells and slices whose constants are bytes, and the parts of a net that are made of them.
use Rattle.std.proofs.Common.{◌<◌, ℕ, zero, suc, ◌+◌, ◌-◌, ◌/◌, ◌%◌, ◌==◌, Bool, true, false, List, [], ◌∷◌, ◌++◌, length, nat_lt, take, map, arith}
use Rattle.std.specs.Bool.{if◌then◌else◌}
use Rattle.std.specs.List.{range_with_len}
use Rattle.pr_base.specs.declared.choices.Carry.{Carry}
use Rattle.pr_net.specs.declared.cells.Slice.{Slice}
use Rattle.pr_net.specs.declared.cells.Wire.{Wire}
use Rattle.pr_net.specs.declared.cells.WireBit.{WireBit}
use Rattle.pr_net.specs.declared.cells.Cell.{Cell}
use Rattle.pr_net.specs.Shape.{wire_of}
use Rattle.pr_net.specs.Order.{IsByte}
use Rattle.pr_net.specs.Whole.{SlicesAreBytes}
use Rattle.pr_cut_units.specs.declared.chains.Style.{Style}
use Rattle.pr_cut_units.specs.Cells.{slice_at, slice_below, byte, byte_below, with_left, with_right}
use Rattle.pr_cut_units.specs.Parts.{Part, Making, each, kept, one_unit, followed_by, above, filled, in_turn}
use Rattle.pr_cut_units.specs.Chains.{linked, carried, carry_cell, entry_of, taking, entries, segments, places, place_after, chain, closed_chain}

-- ---- slices
pub zero_byte : IsByte (Wire.Const 0)
zero_byte = omega arith

pub byte_at : (x : List Slice) (i : ℕ) → SlicesAreBytes x → IsByte (wire_of (slice_at x i))
byte_at [] i h = zero_byte
byte_at (s ∷ x) zero h = h.0
byte_at (s ∷ x) (suc i) h = byte_at x i h.1

pub byte_under : (x : List Slice) (i q : ℕ) → SlicesAreBytes x → IsByte (wire_of (slice_below x i q))
byte_under x i q h = elim (nat_lt i q) as (λ t. IsByte (wire_of (if t then Slice.Const 0 else slice_at x (i - q)))) [ true ↦ zero_byte | false ↦ byte_at x (i - q) h ]

pub slices-append : (x y : List Slice) → SlicesAreBytes x → SlicesAreBytes y → SlicesAreBytes (x ++ y)
slices-append [] y h k = k
slices-append (s ∷ x) y h k = (h.0, slices-append x y h.1 k)

pub slices-take : (n : ℕ) (x : List Slice) → SlicesAreBytes x → SlicesAreBytes (take n x)
slices-take zero x h = tt
slices-take (suc n) [] h = tt
slices-take (suc n) (s ∷ x) h = (h.0, slices-take n x h.1)

pub slices-each : (n : ℕ) (f : ℕ → Slice) → ((i : ℕ) → IsByte (wire_of (f i))) → SlicesAreBytes (each n f)
slices-each n f h = go 0 n
  where
    go : (a m : ℕ) → SlicesAreBytes (map f (range_with_len a m))
    go a zero = tt
    go a (suc m) = (h a, go (a + 1) m)

-- ---- cells
abbrev pub IsByteBit : WireBit → Type 0
IsByteBit WireBit.None = Unit {0}
IsByteBit (WireBit.Of w k) = IsByte w
IsByteBit WireBit.CarryIn = Unit {0}

-- each constant of the cell is a byte
pub record IsByteCell (k : Cell) : Type 0 where
  pub a : IsByte k.a
  pub hi : IsByte k.hi
  pub lo : IsByte k.lo
  pub c : IsByteBit k.c
  pub table : k.table < 256
  pub mask : k.mask < 256
  pub init : k.init < 256

abbrev pub AreByteCells : List Cell → Type 0
AreByteCells [] = Unit {0}
AreByteCells (k ∷ ks) = IsByteCell k × AreByteCells ks

abbrev pub AreByteUnits : List (List Cell) → Type 0
AreByteUnits [] = Unit {0}
AreByteUnits (ks ∷ units) = AreByteCells ks × AreByteUnits units

pub cells-append : (xs ys : List Cell) → AreByteCells xs → AreByteCells ys → AreByteCells (xs ++ ys)
cells-append [] ys h k = k
cells-append (x ∷ xs) ys h k = (h.0, cells-append xs ys h.1 k)

pub units-append : (us vs : List (List Cell)) → AreByteUnits us → AreByteUnits vs → AreByteUnits (us ++ vs)
units-append [] vs h k = k
units-append (ks ∷ us) vs h k = (h.0, units-append us vs h.1 k)

pub cells-each : (n : ℕ) (f : ℕ → Cell) → ((i : ℕ) → IsByteCell (f i)) → AreByteCells (each n f)
cells-each n f h = go 0 n
  where
    go : (a m : ℕ) → AreByteCells (map f (range_with_len a m))
    go a zero = tt
    go a (suc m) = (h a, go (a + 1) m)

-- a cell with B of a shifted value
pub left_bytes : (x : List Slice) (k i : ℕ) (cell : Cell) → SlicesAreBytes x → IsByteCell cell → IsByteCell (with_left x k i cell)
left_bytes x k i cell h g = record {
  a = g.a;
  hi = byte_under x i (k / 8) h;
  lo = elim (k % 8 == 0) as (λ t. IsByte (if t then Wire.Const 0 else byte_below x i (k / 8 + 1))) [ true ↦ zero_byte | false ↦ byte_under x i (k / 8 + 1) h ];
  c = g.c;
  table = g.table;
  mask = g.mask;
  init = g.init;
}

pub right_bytes : (x : List Slice) (k i : ℕ) (cell : Cell) → SlicesAreBytes x → IsByteCell cell → IsByteCell (with_right x k i cell)
right_bytes x k i cell h g = record {
  a = g.a;
  hi = elim (k % 8 == 0) as (λ t. IsByte (if t then byte x (i + k / 8) else byte x (i + k / 8 + 1))) [ true ↦ byte_at x (i + k / 8) h | false ↦ byte_at x (i + k / 8 + 1) h ];
  lo = elim (k % 8 == 0) as (λ t. IsByte (if t then Wire.Const 0 else byte x (i + k / 8))) [ true ↦ zero_byte | false ↦ byte_at x (i + k / 8) h ];
  c = g.c;
  table = g.table;
  mask = g.mask;
  init = g.init;
}

-- ---- parts
pub record IsBytePart (p : Part) : Type 0 where
  pub units : AreByteUnits p.units
  pub slices : SlicesAreBytes p.slices

pub kept_bytes : (u : ℕ) (x : List Slice) → SlicesAreBytes x → IsBytePart (kept x u)
kept_bytes u x h = record { units = tt; slices = h }

pub unit_bytes : (u n : ℕ) (cell : ℕ → Cell) → ((i : ℕ) → IsByteCell (cell i)) → IsBytePart (one_unit n cell u)
unit_bytes u n cell h = record { units = (cells-each n cell h, tt); slices = slices-each n (λ i. Slice.Of u i) (λ i. tt) }

pub then_bytes : (u : ℕ) (first : Making) (second : List Slice → Making) → IsBytePart (first u) → ((x : List Slice) (v : ℕ) → SlicesAreBytes x → IsBytePart (second x v)) → IsBytePart (followed_by first second u)
then_bytes u first second p q =
    let v : ℕ = u + length (first u).units in
    let r = q (first u).slices v p.slices in
    record { units = units-append (first u).units (second (first u).slices v).units p.units r.units; slices = r.slices }

pub above_bytes : (u : ℕ) (low : List Slice) (making : Making) → SlicesAreBytes low → IsBytePart (making u) → IsBytePart (above low making u)
above_bytes u low making h p = record { units = p.units; slices = slices-append low (making u).slices h p.slices }

pub filled_bytes : (u n : ℕ) (making : Making) → IsBytePart (making u) → IsBytePart (filled n making u)
filled_bytes u n making p = record { units = p.units; slices = slices-each n (slice_at (making u).slices) (λ i. byte_at (making u).slices i p.slices) }

pub turns_bytes : (u j n : ℕ) (step : ℕ → List Slice → Making) (x : List Slice) → ((j v : ℕ) (x : List Slice) → SlicesAreBytes x → IsBytePart (step j x v)) → SlicesAreBytes x → IsBytePart (in_turn step j n x u)
turns_bytes u j zero step x s h = kept_bytes u x h
turns_bytes u j (suc n) step x s h = then_bytes u (step j x) (in_turn step (j + 1) n) (s j u x h) (λ y v k. turns_bytes v (j + 1) n step y s k)

pub either_bytes : (u : ℕ) (b : Bool) (m n : Making) → IsBytePart (m u) → IsBytePart (n u) → IsBytePart ((if b then m else n) u)
either_bytes u true m n g h = g
either_bytes u false m n g h = h

-- ---- chains
carry_bytes : (cin : Carry) (k : Cell) → IsByteCell k → IsByteCell (record k { cin = cin })
carry_bytes cin k g = record { a = g.a; hi = g.hi; lo = g.lo; c = g.c; table = g.table; mask = g.mask; init = g.init }

linked_bytes : (first : Carry) (ks : List Cell) → AreByteCells ks → AreByteCells (linked first ks)
linked_bytes first [] h = tt
linked_bytes first (k ∷ ks) h = (carry_bytes first k h.0, go ks h.1)
  where
    go : (ks : List Cell) → AreByteCells ks → AreByteCells (map (λ (k : Cell). record k { cin = Carry.Chain }) ks)
    go [] h = tt
    go (k ∷ ks) h = (carry_bytes Carry.Chain k h.0, go ks h.1)

carried_bytes : (table : ℕ) → table < 256 → IsByteCell (carried table)
carried_bytes table l = record { a = zero_byte; hi = zero_byte; lo = zero_byte; c = tt; table = l; mask = omega arith; init = omega arith }

-- how a segment after unit u begins
start_bytes : (s : Style) (u i : ℕ) (k : Cell) → IsByteCell k → AreByteCells (entry_of s (Wire.Of u i) ++ taking s (Wire.Of u i) k ∷ [])
start_bytes Style.ByBit u i k g = (record { a = g.a; hi = g.hi; lo = g.lo; c = tt; table = g.table; mask = g.mask; init = g.init }, tt)
start_bytes Style.ByEntry u i k g = (record { a = tt; hi = omega arith; lo = zero_byte; c = tt; table = omega arith; mask = omega arith; init = omega arith }, (g, tt))

segments_bytes : (s : Style) (u room : ℕ) (cells close ks : List Cell) → AreByteCells cells → AreByteCells close → AreByteCells ks → AreByteUnits (segments s u room cells close ks)
segments_bytes s u room cells close [] ha hc hk = (cells-append cells close ha hc, tt)
segments_bytes s u zero cells close (k ∷ ks) ha hc hk = (
  cells-append cells (carry_cell ∷ []) ha (carried_bytes 240 (omega arith), tt),
  segments_bytes s (suc u) 3 (entry_of s (Wire.Of u (length cells)) ++ taking s (Wire.Of u (length cells)) k ∷ []) close ks (start_bytes s u (length cells) k hk.0) hc hk.1,
)
segments_bytes s u (suc room) cells close (k ∷ ks) ha hc hk = segments_bytes s u room (cells ++ k ∷ []) close ks (cells-append cells (k ∷ []) ha (hk.0, tt)) hc hk.1

places_bytes : (s : Style) (u room place : ℕ) (ks : List Cell) → SlicesAreBytes (places s u room place ks)
places_bytes s u room place [] = tt
places_bytes s u zero place (k ∷ ks) = (tt, places_bytes s (suc u) 3 (suc (entries s)) ks)
places_bytes s u (suc room) place (k ∷ ks) = (tt, places_bytes s u room (suc place) ks)

after_bytes : (s : Style) (u room place : ℕ) (ks : List Cell) → SlicesAreBytes (place_after s u room place ks ∷ [])
after_bytes s u room place [] = (tt, tt)
after_bytes s u zero place (k ∷ ks) = after_bytes s (suc u) 3 (suc (entries s)) ks
after_bytes s u (suc room) place (k ∷ ks) = after_bytes s u room (suc place) ks

pub chain_bytes : (u : ℕ) (s : Style) (first : Carry) (cells : List Cell) → AreByteCells cells → IsBytePart (chain s first cells u)
chain_bytes u s first cells h = record {
  units = segments_bytes s u 4 [] [] (linked first cells) tt tt (linked_bytes first cells h);
  slices = places_bytes s u 4 0 cells;
}

pub closed_bytes : (u : ℕ) (first : Carry) (table : ℕ) (cells : List Cell) → table < 256 → AreByteCells cells → IsBytePart (closed_chain first table cells u)
closed_bytes u first table cells l h = record {
  units = segments_bytes Style.ByBit u 4 [] (carried table ∷ []) (linked first cells) tt (carried_bytes table l, tt) (linked_bytes first cells h);
  slices = after_bytes Style.ByBit u 4 0 cells;
}
