-- A net is lawful where tests of its lists say so.
use Rattle.std.proofs.Common.{◌≡◌, ◌≢◌, ℕ, ◌<◌, ◌==◌, ◌&&◌, ◌||◌, Bool, true, false, not, nat_lt, nat_le, List, [], ◌∷◌, length, get_or, slice_index, refl, sym, ap, ◌∙◌, subst, arith, inl, inr}
use Rattle.std.specs.List.{Contains, list_all, list_any, range_with_len, sum_by}
use Rattle.std.proofs.lemmas.Bool.{false≢true, and_parts, or_cases, or_from, eqb-true, ltb-true, leb-true, lt-ltb, not-true}
use Rattle.std.proofs.lemmas.List.Elements.{Contains-get_or}
use Rattle.pr_base.specs.Numbers.{slices_of}
use Rattle.pr_base.specs.declared.choices.Carry.{Carry}
use Rattle.pr_net.specs.declared.cells.Cell.{Cell}
use Rattle.pr_net.specs.declared.cells.Wire.{Wire}
use Rattle.pr_net.specs.declared.cells.WireBit.{WireBit}
use Rattle.pr_net.specs.declared.cells.Slice.{Slice}
use Rattle.pr_net.specs.Shape.{NetShape, OutputShape, cells_of, units_of}
use Rattle.pr_net.specs.Nets.{group_of, is_wire_of, is_bit_of, cell_reads, IsLawfulWire, IsLawfulBit, IsLawfulCarry, IsLawfulCell, IsLawfulSlice, IsLawfulOutput, IsNet}
use Rattle.pr_net.proofs.Lists.{all_pass, any_found, in_range}

and-both : {x y : Bool} → (x && y) ≡ true → (x ≡ true) × (y ≡ true)
and-both {x} {y} h = and_parts x y h

below : (p : ℕ → Bool) (n u : ℕ) → list_all p (range_with_len 0 n) ≡ true → u < n → p u ≡ true
below p n u h l = all_pass p (range_with_len 0 n) h u (in_range n u l)

-- ---- cells
abbrev wire_passes : NetShape → ℕ → Wire → Bool
wire_passes net u (Wire.Const k) = true
wire_passes net u (Wire.Of v j) = nat_lt v u && nat_lt j (length (cells_of net v))
wire_passes net u (Wire.State v j) = nat_lt v (length net.units) && ((group_of net v == group_of net u) && nat_lt j (length (cells_of net v)))
wire_passes net u (Wire.Bus i) = nat_lt u (length net.inputs) && nat_lt i (sum_by slices_of net.inputs)

wire_lawful : (net : NetShape) (u : ℕ) (w : Wire) → wire_passes net u w ≡ true → IsLawfulWire net u w
wire_lawful net u (Wire.Const k) h = tt
wire_lawful net u (Wire.Of v j) h = let (a, b) = and-both h in (ltb-true v u a, ltb-true j (length (cells_of net v)) b)
wire_lawful net u (Wire.State v j) h = let (a, r) = and-both h in let (b, c) = and-both r in (ltb-true v (length net.units) a, eqb-true (group_of net v) (group_of net u) b, ltb-true j (length (cells_of net v)) c)
wire_lawful net u (Wire.Bus i) h = let (a, b) = and-both h in (ltb-true u (length net.inputs) a, ltb-true i (sum_by slices_of net.inputs) b)

abbrev bit_passes : NetShape → ℕ → WireBit → Bool
bit_passes net u WireBit.None = true
bit_passes net u (WireBit.Of w place) = wire_passes net u w && nat_lt place 8
bit_passes net u WireBit.CarryIn = true

bit_lawful : (net : NetShape) (u : ℕ) (b : WireBit) → bit_passes net u b ≡ true → IsLawfulBit net u b
bit_lawful net u WireBit.None h = tt
bit_lawful net u (WireBit.Of w place) h = let (a, b) = and-both h in (wire_lawful net u w a, ltb-true place 8 b)
bit_lawful net u WireBit.CarryIn h = tt

abbrev carry_passes : WireBit → Carry → Bool
carry_passes c Carry.Zero = true
carry_passes c Carry.One = true
carry_passes c Carry.Chain = true
carry_passes WireBit.None Carry.FromC = false
carry_passes (WireBit.Of w place) Carry.FromC = true
carry_passes WireBit.CarryIn Carry.FromC = false

carry_lawful : (c : WireBit) (cin : Carry) → carry_passes c cin ≡ true → IsLawfulCarry c cin
carry_lawful c Carry.Zero h = tt
carry_lawful c Carry.One h = tt
carry_lawful c Carry.Chain h = tt
carry_lawful WireBit.None Carry.FromC h = absurd (false≢true h)
carry_lawful (WireBit.Of w place) Carry.FromC h = tt
carry_lawful WireBit.CarryIn Carry.FromC h = absurd (false≢true h)

abbrev cell_passes : NetShape → ℕ → Cell → Bool
cell_passes net u k = wire_passes net u k.a && (wire_passes net u k.hi && (wire_passes net u k.lo && (bit_passes net u k.c && (carry_passes k.c k.cin && nat_lt k.shift 8))))

cell_lawful : (net : NetShape) (u : ℕ) (k : Cell) → cell_passes net u k ≡ true → IsLawfulCell net u k
cell_lawful net u k h =
    let (a, h1) = and-both h in
    let (hi, h2) = and-both h1 in
    let (lo, h3) = and-both h2 in
    let (c, h4) = and-both h3 in
    let (cin, shift) = and-both h4 in
    record { a = wire_lawful net u k.a a; hi = wire_lawful net u k.hi hi; lo = wire_lawful net u k.lo lo; c = bit_lawful net u k.c c; carry = carry_lawful k.c k.cin cin; shift = ltb-true k.shift 8 shift }

-- ---- heads
abbrev begins : Carry → Bool
begins Carry.Zero = true
begins Carry.One = true
begins Carry.Chain = false
begins Carry.FromC = true

abbrev has_head : List Cell → Bool
has_head [] = false
has_head (k ∷ ks) = begins k.cin

filled : (ks : List Cell) → has_head ks ≡ true → 0 < length ks
filled [] h = absurd (false≢true h)
filled (k ∷ ks) h = omega arith

head_is : (ks : List Cell) (d : Cell) → has_head ks ≡ true → (get_or ks 0 d).cin ≢ Carry.Chain
head_is [] d h = absurd (false≢true h)
head_is (k ∷ ks) d h = λ e. false≢true (sym (ap begins e) ∙ h)

-- ---- inputs
abbrev is_alone : ℕ → List ℕ → Bool
is_alone u [] = false
is_alone u (x ∷ []) = x == u
is_alone u (x ∷ y ∷ xs) = false

alone : (u : ℕ) (xs : List ℕ) → is_alone u xs ≡ true → xs ≡ u ∷ []
alone u [] h = absurd (false≢true h)
alone u (x ∷ []) h = ap (λ (y : ℕ). y ∷ []) (eqb-true x u h)
alone u (x ∷ y ∷ xs) h = absurd (false≢true h)

abbrev reads_none : Wire → Bool
reads_none (Wire.Const k) = true
reads_none (Wire.Of v j) = false
reads_none (Wire.State v j) = true
reads_none (Wire.Bus i) = true

wire_bare : (v j : ℕ) (w : Wire) → reads_none w ≡ true → is_wire_of v j w ≡ false
wire_bare v j (Wire.Const k) h = refl
wire_bare v j (Wire.Of u i) h = absurd (false≢true h)
wire_bare v j (Wire.State u i) h = refl
wire_bare v j (Wire.Bus i) h = refl

abbrev takes_none : WireBit → Bool
takes_none WireBit.None = true
takes_none (WireBit.Of w place) = reads_none w
takes_none WireBit.CarryIn = true

bit_bare : (v j : ℕ) (b : WireBit) → takes_none b ≡ true → is_bit_of v j b ≡ false
bit_bare v j WireBit.None h = refl
bit_bare v j (WireBit.Of w place) h = wire_bare v j w h
bit_bare v j WireBit.CarryIn h = refl

abbrev is_bare : Cell → Bool
is_bare k = reads_none k.a && (reads_none k.hi && (reads_none k.lo && takes_none k.c))

cell_bare : (v j : ℕ) (k : Cell) → is_bare k ≡ true → cell_reads v j k ≡ false
cell_bare v j k h =
    let (a, h1) = and-both h in
    let (hi, h2) = and-both h1 in
    let (lo, c) = and-both h2 in
    or_from _ _ (wire_bare v j k.a a) (or_from _ _ (wire_bare v j k.hi hi) (or_from _ _ (wire_bare v j k.lo lo) (bit_bare v j k.c c)))

unit_bare : (v j : ℕ) (ks : List Cell) → list_all is_bare ks ≡ true → list_any (cell_reads v j) ks ≡ false
unit_bare v j [] h = refl
unit_bare v j (k ∷ ks) h = let (one, rest) = and-both h in or_from _ _ (cell_bare v j k one) (unit_bare v j ks rest)

-- ---- outputs
abbrev slice_passes : NetShape → Slice → Bool
slice_passes net (Slice.Const k) = true
slice_passes net (Slice.Of u i) = nat_lt u (length net.units) && nat_lt i (length (cells_of net u))
slice_passes net (Slice.State u i) = false

slice_lawful : (net : NetShape) (x : Slice) → slice_passes net x ≡ true → IsLawfulSlice net x
slice_lawful net (Slice.Const k) h = tt
slice_lawful net (Slice.Of u i) h = let (a, b) = and-both h in (ltb-true u (length net.units) a, ltb-true i (length (cells_of net u)) b)
slice_lawful net (Slice.State u i) h = absurd (false≢true h)

abbrev output_passes : NetShape → OutputShape → Bool
output_passes net o = (nat_lt 0 o.width && nat_le o.width 128) && ((length o.slices == slices_of o.width) && list_all (slice_passes net) o.slices)

output_lawful : (net : NetShape) (o : OutputShape) → output_passes net o ≡ true → IsLawfulOutput net o
output_lawful net o h =
    let (widths, h1) = and-both h in
    let (low, high) = and-both widths in
    let (bytes, slices) = and-both h1 in
    record {
      positive = ltb-true 0 o.width low;
      greatest = leb-true o.width 128 high;
      bytes = eqb-true (length o.slices) (slices_of o.width) bytes;
      slices = λ i d l. slice_lawful net (get_or o.slices i d) (all_pass (slice_passes net) o.slices slices (get_or o.slices i d) (Contains-get_or o.slices i d l));
    }

-- ---- the whole
abbrev rises : List ℕ → Bool
rises us = list_all (λ i. list_all (λ j. not (nat_lt i j) || nat_lt (slice_index us i) (slice_index us j)) (range_with_len 0 (length us))) (range_with_len 0 (length us))

rising : (us : List ℕ) (i j : ℕ) → rises us ≡ true → i < j → j < length us → slice_index us i < slice_index us j
rising us i j h l lj = elim (or_cases _ _ (below (λ k. not (nat_lt i k) || nat_lt (slice_index us i) (slice_index us k)) (length us) j (below (λ a. list_all (λ k. not (nat_lt a k) || nat_lt (slice_index us a) (slice_index us k)) (range_with_len 0 (length us))) (length us) i h (omega (arith, l, lj))) lj)) [
  | inl t ↦ absurd (false≢true (sym (not-true (nat_lt i j) t) ∙ lt-ltb i j l))
  | inr t ↦ ltb-true (slice_index us i) (slice_index us j) t
]

pub record Passes (columns : ℕ) (net : NetShape) : Type 0 where
  pub heads : list_all (λ u. has_head (cells_of net u)) (range_with_len 0 (length net.units)) ≡ true
  pub cells : list_all (λ u. list_all (cell_passes net u) (cells_of net u)) (range_with_len 0 (length net.units)) ≡ true
  pub grouped : list_all (λ u. nat_lt (group_of net u) (length net.groups) && list_any (λ w. w == u) (units_of net (group_of net u))) (range_with_len 0 (length net.units)) ≡ true
  pub members : list_all (λ g. list_all (λ u. nat_lt u (length net.units) && (group_of net u == g)) (units_of net g)) (range_with_len 0 (length net.groups)) ≡ true
  pub some : list_all (λ g. nat_lt 0 (length (units_of net g))) (range_with_len 0 (length net.groups)) ≡ true
  pub ascending : list_all (λ g. rises (units_of net g)) (range_with_len 0 (length net.groups)) ≡ true
  pub inputs : list_all (λ u. (nat_lt u (length net.units) && nat_lt u (length net.groups)) && (is_alone u (units_of net u) && (length (cells_of net u) == slices_of (slice_index net.inputs u)))) (range_with_len 0 (length net.inputs)) ≡ true
  pub bare : list_all (λ u. list_all is_bare (cells_of net u)) (range_with_len 0 (length net.inputs)) ≡ true
  pub widths : list_all (λ u. nat_lt 0 (slice_index net.inputs u) && nat_le (slice_index net.inputs u) 128) (range_with_len 0 (length net.inputs)) ≡ true
  pub outputs : list_all (output_passes net) net.outputs ≡ true
  pub sizes : (nat_le (length net.groups) 32768 && (nat_lt 0 (length net.inputs) && nat_le (sum_by slices_of net.inputs) columns)) ≡ true
  pub counts : (nat_lt 0 (length net.outputs) && nat_le (length net.outputs) 64) ≡ true

pub net_from : (columns : ℕ) (net : NetShape) → Passes columns net → IsNet columns net
net_from columns net p =
    let n = length net.units in
    let m = length net.groups in
    let (few, some_room) = and-both p.sizes in
    let (some_input, room) = and-both some_room in
    let (some_output, few_outputs) = and-both p.counts in
    record {
      filled = λ u l. filled (cells_of net u) (below (λ v. has_head (cells_of net v)) n u p.heads l);
      cells = λ u i d l li. cell_lawful net u (get_or (cells_of net u) i d) (all_pass (cell_passes net u) (cells_of net u) (below (λ v. list_all (cell_passes net v) (cells_of net v)) n u p.cells l) (get_or (cells_of net u) i d) (Contains-get_or (cells_of net u) i d li));
      heads = λ u d l. head_is (cells_of net u) d (below (λ v. has_head (cells_of net v)) n u p.heads l);
      grouped = λ u l. (let (a, b) = and-both (below (λ v. nat_lt (group_of net v) m && list_any (λ w. w == v) (units_of net (group_of net v))) n u p.grouped l) in
          let f = any_found (λ w. w == u) (units_of net (group_of net u)) b in
          (ltb-true (group_of net u) m a, subst (λ (x : ℕ). Contains (units_of net (group_of net u)) x) (eqb-true f.0 u f.2) f.1));
      members = λ g u l c. (let (a, b) = and-both (all_pass (λ v. nat_lt v n && (group_of net v == g)) (units_of net g) (below (λ h. list_all (λ v. nat_lt v n && (group_of net v == h)) (units_of net h)) m g p.members l) u c) in
          (ltb-true u n a, eqb-true (group_of net u) g b));
      few_groups = leb-true m 32768 few;
      some = λ g l. ltb-true 0 (length (units_of net g)) (below (λ h. nat_lt 0 (length (units_of net h))) m g p.some l);
      ascending = λ g i j l li lj. rising (units_of net g) i j (below (λ h. rises (units_of net h)) m g p.ascending l) li lj;
      inputs = λ u l. (let (ab, cd) = and-both (below (λ v. (nat_lt v n && nat_lt v m) && (is_alone v (units_of net v) && (length (cells_of net v) == slices_of (slice_index net.inputs v)))) (length net.inputs) u p.inputs l) in
          let (a, b) = and-both ab in
          let (c, d) = and-both cd in
          (ltb-true u n a, ltb-true u m b, alone u (units_of net u) c, eqb-true (length (cells_of net u)) (slices_of (slice_index net.inputs u)) d));
      bare = λ u v j l. unit_bare v j (cells_of net u) (below (λ w. list_all is_bare (cells_of net w)) (length net.inputs) u p.bare l);
      widths = λ u l. (let (a, b) = and-both (below (λ v. nat_lt 0 (slice_index net.inputs v) && nat_le (slice_index net.inputs v) 128) (length net.inputs) u p.widths l) in
          (ltb-true 0 (slice_index net.inputs u) a, leb-true (slice_index net.inputs u) 128 b));
      some_input = ltb-true 0 (length net.inputs) some_input;
      room = leb-true (sum_by slices_of net.inputs) columns room;
      some_output = ltb-true 0 (length net.outputs) some_output;
      few_outputs = leb-true (length net.outputs) 64 few_outputs;
      outputs = λ i d l. output_lawful net (get_or net.outputs i d) (all_pass (output_passes net) net.outputs p.outputs (get_or net.outputs i d) (Contains-get_or net.outputs i d l));
    }
