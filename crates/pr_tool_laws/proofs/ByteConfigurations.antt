-- All constants of a placed net's configuration are bytes, where those of the net are.
use Rattle.std.proofs.Common.{◌≡◌, ◌<◌, ℕ, zero, suc, ◌+◌, ◌-◌, ◌==◌, ◌&&◌, true, false, List, [], ◌∷◌, length, map, Option, Some, None, slice_index_or, refl, arith}
use Rattle.std.specs.Bool.{if◌then◌else◌}
use Rattle.std.specs.List.{list_all, range_with_len, find}
use Rattle.std.proofs.lemmas.Bool.{lt-ltb, ltb-true}
use Rattle.pr_net.specs.declared.cells.Slice.{Slice}
use Rattle.pr_net.specs.declared.cells.Wire.{Wire}
use Rattle.pr_net.specs.declared.cells.WireBit.{WireBit}
use Rattle.pr_net.specs.declared.cells.Cell.{Cell}
use Rattle.pr_net.specs.Order.{IsByte}
use Rattle.pr_net.specs.Whole.{SlicesAreBytes, OutputsAreBytes}
use Rattle.pr_net.specs.Nets.{group_of}
use Rattle.pr_net.specs.Shape.{NetShape, OutputShape as Slices, cells_of}
use Rattle.pr_place.specs.Placements.{PlacementShape, home_of, column_of, register_of}
use Rattle.pr_conf.specs.declared.pes.Source.{Source}
use Rattle.pr_conf.specs.declared.pes.Pe.{Pe}
use Rattle.pr_code.specs.Spelling.{is_byte, has_source_byte, has_c_byte, has_tap_byte, has_pe_bytes, have_tap_bytes, has_bytes}
use Rattle.pr_code.proofs.AgainLemmas.{and_true}
use Rattle.pr_code.proofs.WritingLemmas.{both}
use Rattle.pr_route.specs.Conf.{source_of, bit_of, pe_of, idle_cell, stands_at, pe_by, pe_at, pes_at, tap_of, taps_of, conf_of}
use Rattle.pr_tool_laws.proofs.ByteParts.{zero_byte, IsByteBit, IsByteCell, AreByteCells, AreByteUnits}
use Rattle.pr_tool_laws.proofs.ByteNets.{IsByteNet}

-- ---- a processing element
-- each constant of it is a byte
pub record IsBytePe (pe : Pe) : Type 0 where
  pub a : has_source_byte pe.a ≡ true
  pub hi : has_source_byte pe.hi ≡ true
  pub lo : has_source_byte pe.lo ≡ true
  pub c : has_c_byte pe.c ≡ true
  pub table : pe.table < 256
  pub mask : pe.mask < 256
  pub init : pe.init < 256

pub pe_whole : (pe : Pe) → IsBytePe pe → has_pe_bytes pe ≡ true
unfolding has_pe_bytes
pe_whole pe p =
    let sources = and_true _ _ (and_true _ _ (and_true _ _ p.a p.hi) p.lo) p.c in
    and_true _ _ (and_true _ _ (and_true _ _ sources (lt-ltb pe.table 256 p.table)) (lt-ltb pe.mask 256 p.mask)) (lt-ltb pe.init 256 p.init)

pub pe_parts : (pe : Pe) → has_pe_bytes pe ≡ true → IsBytePe pe
unfolding has_pe_bytes
pe_parts pe h =
    let a = has_source_byte pe.a in
    let hi = has_source_byte pe.hi in
    let lo = has_source_byte pe.lo in
    let c = has_c_byte pe.c in
    let table = is_byte pe.table in
    let mask = is_byte pe.mask in
    let h6 = both (a && hi && lo && c && table && mask) (is_byte pe.init) h in
    let h5 = both (a && hi && lo && c && table) mask h6.0 in
    let h4 = both (a && hi && lo && c) table h5.0 in
    let h3 = both (a && hi && lo) c h4.0 in
    let h2 = both (a && hi) lo h3.0 in
    let h1 = both a hi h2.0 in
    record { a = h1.0; hi = h1.1; lo = h2.1; c = h3.1; table = ltb-true pe.table 256 h4.1; mask = ltb-true pe.mask 256 h5.1; init = ltb-true pe.init 256 h6.1 }

-- ---- a placed net
module _ (net : NetShape) (pl : PlacementShape) where
  source_bytes : (u : ℕ) (w : Wire) → IsByte w → has_source_byte (source_of net pl u w) ≡ true
  source_bytes u (Wire.Const k) h = lt-ltb k 256 h
  source_bytes u (Wire.Of v i) h = elim (group_of net v == group_of net u) as (λ t. has_source_byte (if t then Source.Here (column_of pl v i) else Source.Prev (column_of pl v i) (register_of pl v i)) ≡ true) [ true ↦ refl | false ↦ refl ]
  source_bytes u (Wire.State v i) h = refl
  source_bytes u (Wire.Bus i) h = refl

  bit_bytes : (u : ℕ) (b : WireBit) → IsByteBit b → has_c_byte (bit_of net pl u b) ≡ true
  bit_bytes u WireBit.None h = refl
  bit_bytes u (WireBit.Of w k) h = source_bytes u w h
  bit_bytes u WireBit.CarryIn h = refl

  cell_bytes : (u reg : ℕ) (k : Cell) → IsByteCell k → has_pe_bytes (pe_of net pl u k reg) ≡ true
  cell_bytes u reg k g = pe_whole (pe_of net pl u k reg) (record { a = source_bytes u k.a g.a; hi = source_bytes u k.hi g.hi; lo = source_bytes u k.lo g.lo; c = bit_bytes u k.c g.c; table = g.table; mask = g.mask; init = g.init })

  idle_bytes : IsByteCell idle_cell
  idle_bytes = record { a = zero_byte; hi = zero_byte; lo = zero_byte; c = tt; table = omega arith; mask = omega arith; init = omega arith }

  cell_at : (ks : List Cell) (i : ℕ) → AreByteCells ks → IsByteCell (slice_index_or ks i idle_cell)
  cell_at [] i h = idle_bytes
  cell_at (k ∷ ks) zero h = h.0
  cell_at (k ∷ ks) (suc i) h = cell_at ks i h.1

  unit_at : (units : List (List Cell)) (u : ℕ) → AreByteUnits units → AreByteCells (slice_index_or units u [])
  unit_at [] u h = tt
  unit_at (ks ∷ units) zero h = h.0
  unit_at (ks ∷ units) (suc u) h = unit_at units u h.1

  by_bytes : (col : ℕ) (o : Option ℕ) → AreByteUnits net.units → has_pe_bytes (pe_by net pl col o) ≡ true
  by_bytes col None h = pe_whole _ (record { a = refl; hi = refl; lo = refl; c = refl; table = omega arith; mask = omega arith; init = omega arith })
  by_bytes col (Some u) h = cell_bytes u (register_of pl u (col - (home_of pl u).col)) _ (cell_at (cells_of net u) (col - (home_of pl u).col) (unit_at net.units u h))

  columns_bytes : (s a n : ℕ) → AreByteUnits net.units → list_all has_pe_bytes (map (pe_at net pl s) (range_with_len a n)) ≡ true
  columns_bytes s a zero h = refl
  columns_bytes s a (suc n) h = and_true _ _ (by_bytes a (find (stands_at net pl s a) (range_with_len 0 (length net.units))) h) (columns_bytes s (a + 1) n h)

  stages_bytes : (N a n : ℕ) → AreByteUnits net.units → list_all (list_all has_pe_bytes) (map (pes_at N net pl) (range_with_len a n)) ≡ true
  unfolding pes_at
  stages_bytes N a zero h = refl
  stages_bytes N a (suc n) h = and_true _ _ (columns_bytes a 0 N h) (stages_bytes N (a + 1) n h)

  tap_bytes : (xs : List Slice) → SlicesAreBytes xs → list_all has_tap_byte (map (tap_of pl) xs) ≡ true
  tap_bytes [] h = refl
  tap_bytes (Slice.Const k ∷ xs) h = and_true _ _ (lt-ltb k 256 h.0) (tap_bytes xs h.1)
  tap_bytes (Slice.Of u i ∷ xs) h = tap_bytes xs h.1
  tap_bytes (Slice.State u i ∷ xs) h = tap_bytes xs h.1

  taps_bytes : (os : List Slices) → OutputsAreBytes os → list_all have_tap_bytes (map (taps_of pl) os) ≡ true
  taps_bytes [] h = refl
  taps_bytes (o ∷ os) h = and_true _ _ (tap_bytes o.slices h.0) (taps_bytes os h.1)

  pub placed_bytes : (N : ℕ) → IsByteNet net → has_bytes (conf_of N net pl) ≡ true
  placed_bytes N g = and_true _ _ (taps_bytes net.outputs g.outputs) (stages_bytes N 0 pl.stages g.units)
