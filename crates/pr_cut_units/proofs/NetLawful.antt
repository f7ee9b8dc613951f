-- The net of equations is lawful, where its groups are and its outputs have no states.
use Rattle.std.proofs.Common.{◌≡◌, ◌<◌, ◌≤◌, ◌⊎◌, ℕ, zero, suc, ◌+◌, ◌-◌, false, List, [], ◌∷◌, ◌++◌, length, get_or, map, refl, subst, sym, ap, ◌∙◌, arith, length-append, inl, inr}
use Rattle.std.specs.Prelude.{slice_index, slice_index_or}
use Rattle.std.specs.List.{range_with_len, sum_by, list_any, Contains}
use Rattle.std.proofs.lemmas.Bool.{cases_lt}
use Rattle.std.proofs.lemmas.List.{get_or_append_left, get_or-append_right}
use Rattle.std.proofs.lemmas.List.Sums.{sum_by-cons}
use Rattle.std.proofs.lemmas.List.FromFn.{length-map-range_with_len}
use Rattle.pr_base.specs.Numbers.{slices_of}
use Rattle.pr_base.specs.declared.choices.Carry.{Carry}
use Rattle.pr_flat.specs.declared.equations.Operand.{Operand}
use Rattle.pr_flat.specs.Shape.{EquationShape}
use Rattle.pr_net.specs.declared.cells.Slice.{Slice}
use Rattle.pr_net.specs.declared.cells.Wire.{Wire}
use Rattle.pr_net.specs.declared.cells.WireBit.{WireBit}
use Rattle.pr_net.specs.declared.cells.Cell.{Cell}
use Rattle.pr_net.specs.Shape.{OutputShape, NetShape, cells_of, units_of}
use Rattle.pr_net.specs.Order.{IsBefore, IsBitBefore, ReadsBefore, AllBefore, AreInOrder, BeginsFresh, HasHead, HaveHeads}
use Rattle.pr_net.specs.Nets.{group_of, is_wire_of, cell_reads, IsLawfulWire, IsLawfulBit, IsLawfulCarry, IsLawfulCell, IsLawfulOutput, IsNet}
use Rattle.pr_net.proofs.Lists.{at_head, in_tail}
use Rattle.pr_cut_units.specs.Groups.{bit_wires, cell_wires}
use Rattle.pr_cut_units.specs.Cells.{plain, top}
use Rattle.pr_cut_units.specs.Nets.{net_with}
use Rattle.pr_cut_units.specs.Equations.{plan_of, cut_start, cut_whole, input_units}
use Rattle.pr_cut_units.proofs.CountNets.{AreCounted, length-reached}
use Rattle.pr_cut_units.proofs.GoodNets.{AllWide, good_whole, inputs_count}
use Rattle.pr_cut_units.proofs.FitParts.{IsThere, IsBitThere, IsFit, AllFit, Sized, sized-append}
use Rattle.pr_cut_units.proofs.FitNets.{UnitsRead, AreAllowed, FitAfter, fit_after, added_after, added_is, ValuesThere}

-- ---- lists of units by their numbers
-- the units from number u on
record From (all : List (List Cell)) (u : ℕ) (rest : List (List Cell)) : Type 0 where
  pub at : (i : ℕ) → get_or all (u + i) [] ≡ get_or rest i []

sizes : List (List Cell) → ℕ → ℕ
sizes all u = length (get_or all u [])

from_more : (all : List (List Cell)) (u : ℕ) (x : List Cell) (rest : List (List Cell)) → From all u (x ∷ rest) → From all (suc u) rest
from_more all u x rest f = record { at = λ i. ap (λ (k : ℕ). get_or all k []) (omega arith) ∙ f.at (suc i) }

sized_from : (all : List (List Cell)) (u : ℕ) (rest : List (List Cell)) → From all u rest → Sized (λ v. length (get_or all v [])) u rest
sized_from all u [] f = tt
sized_from all u (ks ∷ rest) f = (ap (λ (x : List Cell). length x) (ap (λ (k : ℕ). get_or all k []) (omega arith) ∙ f.at 0), sized_from all (suc u) rest (from_more all u ks rest f))

pub sized_self : (all : List (List Cell)) → Sized (λ v. length (get_or all v [])) 0 all
sized_self all = sized_from all 0 all (record { at = λ i. ap (λ (k : ℕ). get_or all k []) (omega arith) })

pub order_at : (v : ℕ) (us : List (List Cell)) (i : ℕ) → AreInOrder v us → AllBefore (v + i) (get_or us i [])
order_at v [] i h = tt
order_at v (ks ∷ us) zero h = let e : v ≡ v + 0 = omega arith in subst (λ (n : ℕ). AllBefore n ks) e h.0
order_at v (ks ∷ us) (suc i) h = let e : suc v + i ≡ v + suc i = omega arith in subst (λ (n : ℕ). AllBefore n (get_or us i [])) e (order_at (suc v) us i h.1)

before_at : (v : ℕ) (ks : List Cell) (i : ℕ) (d : Cell) → i < length ks → AllBefore v ks → ReadsBefore v (get_or ks i d)
before_at v [] i d l h = absurd (omega (arith, l))
before_at v (k ∷ ks) zero d l h = h.0
before_at v (k ∷ ks) (suc i) d l h = before_at v ks i d (omega (arith, l)) h.1

head_at : (us : List (List Cell)) (u : ℕ) → HaveHeads us → HasHead (get_or us u [])
head_at [] u h = tt
head_at (ks ∷ us) zero h = h.0
head_at (ks ∷ us) (suc u) h = head_at us u h.1

fresh : (ci : Carry) → BeginsFresh ci → ci ≡ Carry.Chain → ⊥
fresh Carry.Chain h e = h
fresh Carry.Zero h e = subst (λ (c : Carry). IsZero c) e tt
  where
    IsZero : Carry → Type 0
    IsZero Carry.Zero = Unit {0}
    IsZero Carry.One = ⊥
    IsZero Carry.Chain = ⊥
    IsZero Carry.FromC = ⊥
fresh Carry.One h e = subst (λ (c : Carry). IsOne c) e tt
  where
    IsOne : Carry → Type 0
    IsOne Carry.Zero = ⊥
    IsOne Carry.One = Unit {0}
    IsOne Carry.Chain = ⊥
    IsOne Carry.FromC = ⊥
fresh Carry.FromC h e = subst (λ (c : Carry). IsFrom c) e tt
  where
    IsFrom : Carry → Type 0
    IsFrom Carry.Zero = ⊥
    IsFrom Carry.One = ⊥
    IsFrom Carry.Chain = ⊥
    IsFrom Carry.FromC = Unit {0}

head_fresh : (ks : List Cell) (d : Cell) → 0 < length ks → HasHead ks → (get_or ks 0 d).cin ≡ Carry.Chain → ⊥
head_fresh [] d l h e = omega (arith, l)
head_fresh (k ∷ ks) d l h e = fresh k.cin h e

pub read_at : (z : ℕ → ℕ) (R : ℕ → ℕ → ℕ → Type 0) (v : ℕ) (us : List (List Cell)) (i : ℕ) → i < length us → UnitsRead z R v us → (0 < length (get_or us i [])) × AllFit z (R (v + i)) (get_or us i [])
read_at z R v [] i l h = absurd (omega (arith, l))
read_at z R v (ks ∷ us) zero l h = let e : v ≡ v + 0 = omega arith in (h.0.0, subst (λ (n : ℕ). AllFit z (R n) ks) e h.0.1)
read_at z R v (ks ∷ us) (suc i) l h =
    let e : suc v + i ≡ v + suc i = omega arith in
    let t = read_at z R (suc v) us i (omega (arith, l)) h.1 in
    (t.0, subst (λ (n : ℕ). AllFit z (R n) (get_or us i [])) e t.1)

fit_at_place : (z : ℕ → ℕ) (T : ℕ → ℕ → Type 0) (ks : List Cell) (i : ℕ) (d : Cell) → i < length ks → AllFit z T ks → IsFit z T (get_or ks i d)
fit_at_place z T [] i d l h = absurd (omega (arith, l))
fit_at_place z T (k ∷ ks) zero d l h = h.0
fit_at_place z T (k ∷ ks) (suc i) d l h = fit_at_place z T ks i d (omega (arith, l)) h.1

-- ---- cells that are no input's
-- the states that a unit may read: those of cells of its own group
abbrev pub InGroup : NetShape → ℕ → ℕ → ℕ → Type 0
InGroup net u v j = (v < length net.units) × (group_of net v ≡ group_of net u) × (j < length (cells_of net v))

-- what a unit reads of a state that it may read is of its group
pub record IsTied (net : NetShape) (R : ℕ → ℕ → ℕ → Type 0) : Type 0 where
  pub at : (u i v j : ℕ) (d : Cell) → u < length net.units → i < length (cells_of net u) → Contains (cell_wires (get_or (cells_of net u) i d)) (Wire.State v j) → R u v j → InGroup net u v j

wire_lawful : (net : NetShape) (R : ℕ → ℕ → ℕ → Type 0) (u : ℕ) (w : Wire) → IsBefore u w → IsThere (λ v. length (cells_of net v)) (R u) w → ((v j : ℕ) → w ≡ Wire.State v j → R u v j → InGroup net u v j) → IsLawfulWire net u w
wire_lawful net R u (Wire.Const k) b h t = tt
wire_lawful net R u (Wire.Of v j) b h t = (b, h)
wire_lawful net R u (Wire.State v j) b h t = t v j refl h
wire_lawful net R u (Wire.Bus i) b h t = absurd h

bit_lawful : (net : NetShape) (R : ℕ → ℕ → ℕ → Type 0) (u : ℕ) (c : WireBit) → IsBitBefore u c → IsBitThere (λ v. length (cells_of net v)) (R u) c → ((v j : ℕ) → Contains (bit_wires c) (Wire.State v j) → R u v j → InGroup net u v j) → IsLawfulBit net u c
bit_lawful net R u WireBit.None b h t = tt
bit_lawful net R u (WireBit.Of w k) b h t = (wire_lawful net R u w b h.0 (λ v j e r. t v j (subst (λ (x : Wire). Contains (w ∷ []) x) e (at_head w [])) r), h.1)
bit_lawful net R u WireBit.CarryIn b h t = tt

cell_lawful : (net : NetShape) (R : ℕ → ℕ → ℕ → Type 0) (u : ℕ) (k : Cell) → ReadsBefore u k → IsFit (λ v. length (cells_of net v)) (R u) k → ((v j : ℕ) → Contains (cell_wires k) (Wire.State v j) → R u v j → InGroup net u v j) → IsLawfulCell net u k
cell_lawful net R u k b h t =
    let lows = k.lo ∷ bit_wires k.c in
    let his = k.hi ∷ lows in
    record {
      a = wire_lawful net R u k.a b.a h.a (λ v j e r. t v j (subst (λ (x : Wire). Contains (k.a ∷ his) x) e (at_head k.a his)) r);
      hi = wire_lawful net R u k.hi b.hi h.hi (λ v j e r. t v j (in_tail k.a (Wire.State v j) his (subst (λ (x : Wire). Contains his x) e (at_head k.hi lows))) r);
      lo = wire_lawful net R u k.lo b.lo h.lo (λ v j e r. t v j (in_tail k.a (Wire.State v j) his (in_tail k.hi (Wire.State v j) lows (subst (λ (x : Wire). Contains lows x) e (at_head k.lo (bit_wires k.c))))) r);
      c = bit_lawful net R u k.c b.c h.c (λ v j m r. t v j (in_tail k.a (Wire.State v j) his (in_tail k.hi (Wire.State v j) lows (in_tail k.lo (Wire.State v j) (bit_wires k.c) m))) r);
      carry = h.carry;
      shift = h.shift;
    }

-- ---- input units
-- a cell that reads the sample alone
abbrev pub IsInputWire : ℕ → Wire → Type 0
IsInputWire total (Wire.Const k) = Unit {0}
IsInputWire total (Wire.Of v j) = ⊥
IsInputWire total (Wire.State v j) = ⊥
IsInputWire total (Wire.Bus i) = i < total

pub record IsInputCell (total : ℕ) (k : Cell) : Type 0 where
  pub a : IsInputWire total k.a
  pub hi : IsInputWire total k.hi
  pub lo : IsInputWire total k.lo
  pub c : k.c ≡ WireBit.None
  pub carry : k.cin ≡ Carry.Zero
  pub shift : k.shift ≡ 0

abbrev pub AllInput : ℕ → List Cell → Type 0
AllInput total [] = Unit {0}
AllInput total (k ∷ ks) = IsInputCell total k × AllInput total ks

pub input_at : (offset : ℕ) (ws : List ℕ) (u : ℕ) → u < length ws → (length (get_or (input_units offset ws) u []) ≡ slices_of (get_or ws u 0)) × AllInput (offset + sum_by slices_of ws) (get_or (input_units offset ws) u [])
input_at offset [] u l = absurd (omega (arith, l))
input_at offset (w ∷ ws) zero l = (length-map-range_with_len _ 0 (slices_of w), go 0 (slices_of w) (let e = sum_by-cons slices_of w ws in omega (arith, e)))
  where
    cell : ℕ → Cell
    cell i = record plain { a = Wire.Bus (offset + i); table = 170; mask = top w i }

    go : (a m : ℕ) → offset + (a + m) ≤ offset + sum_by slices_of (w ∷ ws) → AllInput (offset + sum_by slices_of (w ∷ ws)) (map (λ i. record plain { a = Wire.Bus (offset + i); table = 170; mask = top w i }) (range_with_len a m))
    go a zero r = tt
    go a (suc m) r = (record { a = omega (arith, r); hi = tt; lo = tt; c = refl; carry = refl; shift = refl }, go (a + 1) m (omega (arith, r)))
input_at offset (w ∷ ws) (suc u) l =
    let t = input_at (offset + slices_of w) ws u (omega (arith, l)) in
    let e : offset + slices_of w + sum_by slices_of ws ≡ offset + sum_by slices_of (w ∷ ws) = (let q = sum_by-cons slices_of w ws in omega (arith, q)) in
    (t.0, subst (λ (n : ℕ). AllInput n (get_or (input_units (offset + slices_of w) ws) u [])) e t.1)

input_cell : (total : ℕ) (ks : List Cell) (i : ℕ) (d : Cell) → i < length ks → AllInput total ks → IsInputCell total (get_or ks i d)
input_cell total [] i d l h = absurd (omega (arith, l))
input_cell total (k ∷ ks) zero d l h = h.0
input_cell total (k ∷ ks) (suc i) d l h = input_cell total ks i d (omega (arith, l)) h.1

input_wire : (net : NetShape) (u : ℕ) (w : Wire) → u < length net.inputs → IsInputWire (sum_by slices_of net.inputs) w → IsLawfulWire net u w
input_wire net u (Wire.Const k) l h = tt
input_wire net u (Wire.Of v j) l h = absurd h
input_wire net u (Wire.State v j) l h = absurd h
input_wire net u (Wire.Bus i) l h = (l, h)

input_lawful : (net : NetShape) (u : ℕ) (k : Cell) → u < length net.inputs → IsInputCell (sum_by slices_of net.inputs) k → IsLawfulCell net u k
input_lawful net u k l h = record {
  a = input_wire net u k.a l h.a;
  hi = input_wire net u k.hi l h.hi;
  lo = input_wire net u k.lo l h.lo;
  c = subst (λ (c : WireBit). IsLawfulBit net u c) (sym h.c) tt;
  carry = subst (λ (c : Carry). IsLawfulCarry k.c c) (sym h.carry) tt;
  shift = let e = h.shift in omega (arith, e);
}

wire_bare : (total v j : ℕ) (w : Wire) → IsInputWire total w → is_wire_of v j w ≡ false
wire_bare total v j (Wire.Const k) h = refl
wire_bare total v j (Wire.Of u i) h = absurd h
wire_bare total v j (Wire.State u i) h = absurd h
wire_bare total v j (Wire.Bus i) h = refl

cell_bare : (total v j : ℕ) (k : Cell) → IsInputCell total k → cell_reads v j k ≡ false
cell_bare total v j k h = rw (wire_bare total v j k.a h.a, wire_bare total v j k.hi h.hi, wire_bare total v j k.lo h.lo, h.c) refl

cells_bare : (total v j : ℕ) (ks : List Cell) → AllInput total ks → list_any (cell_reads v j) ks ≡ false
cells_bare total v j [] h = refl
cells_bare total v j (k ∷ ks) h = rw (cell_bare total v j k h.0, cells_bare total v j ks h.1) refl

-- ---- the whole
-- what is asked of groups
pub record IsGrouped (net : NetShape) : Type 0 where
  pub grouped : (u : ℕ) → u < length net.units → (group_of net u < length net.groups) × Contains (units_of net (group_of net u)) u
  pub members : (g u : ℕ) → g < length net.groups → Contains (units_of net g) u → (u < length net.units) × (group_of net u ≡ g)
  pub few : length net.groups ≤ 32768
  pub some : (g : ℕ) → g < length net.groups → 0 < length (units_of net g)
  pub ascending : (g i j : ℕ) → g < length net.groups → i < j → j < length (units_of net g) → slice_index (units_of net g) i < slice_index (units_of net g) j
  pub inputs : (u : ℕ) → u < length net.inputs → (u < length net.groups) × (units_of net u ≡ u ∷ [])

-- what is asked of inputs and outputs
pub record HasEnds (columns : ℕ) (net : NetShape) : Type 0 where
  pub widths : (u : ℕ) → u < length net.inputs → (0 < slice_index net.inputs u) × (slice_index net.inputs u ≤ 128)
  pub some_input : 0 < length net.inputs
  pub room : sum_by slices_of net.inputs ≤ columns
  pub some_output : 0 < length net.outputs
  pub few_outputs : length net.outputs ≤ 64
  pub outputs : (i : ℕ) (d : OutputShape) → i < length net.outputs → IsLawfulOutput net (get_or net.outputs i d)

pub length-inputs : (offset : ℕ) (ws : List ℕ) → length (input_units offset ws) ≡ length ws
length-inputs offset [] = refl
length-inputs offset (w ∷ ws) = ap suc (length-inputs (offset + slices_of w) ws)

-- the units of a net, input units first
record Standing (net : NetShape) (V R : ℕ → ℕ → ℕ → Type 0) (rest : List (List Cell)) (values : List (List Slice)) : Type 0 where
  pub units : net.units ≡ input_units 0 net.inputs ++ rest
  pub order : AreInOrder 0 net.units
  pub heads : HaveHeads net.units
  pub tied : IsTied net R
  pub fit : FitAfter (λ v. length (cells_of net v)) V R (length net.inputs) rest values

pub unit_cases : (net : NetShape) (rest : List (List Cell)) (u : ℕ) → net.units ≡ input_units 0 net.inputs ++ rest → u < length net.units
    → ((u < length net.inputs) × (cells_of net u ≡ get_or (input_units 0 net.inputs) u [])) ⊎ ((i : ℕ) × (i < length rest) × (length net.inputs + i ≡ u) × (cells_of net u ≡ get_or rest i []))
unit_cases net rest u is l =
    let ins = input_units 0 net.inputs in
    let n : length ins ≡ length net.inputs = length-inputs 0 net.inputs in
    let whole : length net.units ≡ length ins + length rest = ap (λ (x : List (List Cell)). length x) is ∙ length-append ins rest in
    elim (cases_lt u (length net.inputs)) [
      | inl a ↦ inl (a, ap (λ (x : List (List Cell)). get_or x u []) is ∙ get_or_append_left ins rest [] u (omega (arith, a, n)))
      | inr b ↦
          (let at : length net.inputs + (u - length net.inputs) ≡ u = omega (arith, b) in
          inr (u - length net.inputs, omega (arith, l, whole, n, b), at, ap (λ (x : List (List Cell)). get_or x u []) is ∙ get_or-append_right ins rest (length net.inputs) u [] n b))
    ]

lawful_cells : (net : NetShape) (V R : ℕ → ℕ → ℕ → Type 0) (rest : List (List Cell)) (values : List (List Slice)) → Standing net V R rest values → (u i : ℕ) (d : Cell) → u < length net.units → i < length (cells_of net u) → IsLawfulCell net u (get_or (cells_of net u) i d)
lawful_cells net V R rest values s u i d lu li = elim (unit_cases net rest u s.units lu) [
  | inl (a, e) ↦
      (let t = input_at 0 net.inputs u a in
      let all : AllInput (sum_by slices_of net.inputs) (cells_of net u) = subst (λ (ks : List Cell). AllInput (sum_by slices_of net.inputs) ks) (sym e) (let z : 0 + sum_by slices_of net.inputs ≡ sum_by slices_of net.inputs = omega arith in subst (λ (n : ℕ). AllInput n (get_or (input_units 0 net.inputs) u [])) z t.1) in
      input_lawful net u (get_or (cells_of net u) i d) a (input_cell (sum_by slices_of net.inputs) (cells_of net u) i d li all))
  | inr (k, lk, at, e) ↦
      (let z = λ (v : ℕ). length (cells_of net v) in
      let t = read_at z R (length net.inputs) rest k lk s.fit.units in
      let all : AllFit z (R u) (cells_of net u) = subst (λ (ks : List Cell). AllFit z (R u) ks) (sym e) (subst (λ (n : ℕ). AllFit z (R n) (get_or rest k [])) at t.1) in
      let o : AllBefore u (cells_of net u) = (let q : 0 + u ≡ u = omega arith in subst (λ (n : ℕ). AllBefore n (cells_of net u)) q (order_at 0 net.units u s.order)) in
      cell_lawful net R u (get_or (cells_of net u) i d) (before_at u (cells_of net u) i d li o) (fit_at_place z (R u) (cells_of net u) i d li all) (λ v j m r. s.tied.at u i v j d lu li m r))
]

filled_units : (net : NetShape) (V R : ℕ → ℕ → ℕ → Type 0) (rest : List (List Cell)) (values : List (List Slice)) → Standing net V R rest values → ((u : ℕ) → u < length net.inputs → 0 < slice_index net.inputs u) → (u : ℕ) → u < length net.units → 0 < length (cells_of net u)
filled_units net V R rest values s w u lu = elim (unit_cases net rest u s.units lu) [
  | inl (a, e) ↦ (let t = (input_at 0 net.inputs u a).0 in let some = w u a in omega (arith, t, some, ap (λ (ks : List Cell). length ks) e))
  | inr (k, lk, at, e) ↦ (let t = (read_at (λ v. length (cells_of net v)) R (length net.inputs) rest k lk s.fit.units).0 in omega (arith, t, ap (λ (ks : List Cell). length ks) e))
]

pub input_there : (net : NetShape) (rest : List (List Cell)) → net.units ≡ input_units 0 net.inputs ++ rest → (u : ℕ) → u < length net.inputs → (u < length net.units) × (cells_of net u ≡ get_or (input_units 0 net.inputs) u [])
input_there net rest is u l =
    let ins = input_units 0 net.inputs in
    let n : length ins ≡ length net.inputs = length-inputs 0 net.inputs in
    let whole : length net.units ≡ length ins + length rest = ap (λ (x : List (List Cell)). length x) is ∙ length-append ins rest in
    (omega (arith, l, n, whole), ap (λ (x : List (List Cell)). get_or x u []) is ∙ get_or_append_left ins rest [] u (omega (arith, l, n)))

standing_lawful : (columns : ℕ) (net : NetShape) (V R : ℕ → ℕ → ℕ → Type 0) (rest : List (List Cell)) (values : List (List Slice)) → Standing net V R rest values → IsGrouped net → HasEnds columns net → IsNet columns net
standing_lawful columns net V R rest values s g h = record {
  filled = filled_units net V R rest values s (λ u l. (h.widths u l).0);
  cells = lawful_cells net V R rest values s;
  heads = λ u d l e. head_fresh (cells_of net u) d (filled_units net V R rest values s (λ v k. (h.widths v k).0) u l) (head_at net.units u s.heads) e;
  grouped = g.grouped;
  members = g.members;
  few_groups = g.few;
  some = g.some;
  ascending = g.ascending;
  inputs = λ u l. (let t = input_there net rest s.units u l in (t.0, (g.inputs u l).0, (g.inputs u l).1, ap (λ (ks : List Cell). length ks) t.1 ∙ (input_at 0 net.inputs u l).0));
  bare = λ u v j l. (let t = input_there net rest s.units u l in ap (λ (ks : List Cell). list_any (cell_reads v j) ks) t.1 ∙ cells_bare (0 + sum_by slices_of net.inputs) v j (get_or (input_units 0 net.inputs) u []) (input_at 0 net.inputs u l).1);
  widths = h.widths;
  some_input = h.some_input;
  room = h.room;
  some_output = h.some_output;
  few_outputs = h.few_outputs;
  outputs = h.outputs;
}

-- the units after those of inputs, and the slices of all equations
pub with_fit : (equations : List EquationShape) (widths : List ℕ) (outputs : List Operand) (S V R : ℕ → ℕ → ℕ → Type 0) → (let plan = plan_of equations widths outputs in let net = net_with plan (cut_whole plan) outputs in
    AreCounted plan 0 equations → AreAllowed (λ v. length (cells_of net v)) S V R plan 0 equations → FitAfter (λ v. length (cells_of net v)) V R (length net.inputs) (added_after plan (cut_start equations) equations) (cut_whole plan).values)
with_fit equations widths outputs S V R counted allowed =
    let plan = plan_of equations widths outputs in
    let net = net_with plan (cut_whole plan) outputs in
    let start = cut_start equations in
    let z = λ (v : ℕ). length (cells_of net v) in
    let rest = added_after plan start equations in
    let is : net.units ≡ input_units 0 net.inputs ++ rest = added_is plan start equations in
    let n : length (input_units 0 net.inputs) ≡ length net.inputs = length-inputs 0 net.inputs in
    let sized = sized-append z 0 (input_units 0 net.inputs) rest (subst (λ (us : List (List Cell)). Sized z 0 us) is (sized_self net.units)) in
    let zero_plus : 0 + length (input_units 0 net.inputs) ≡ length (input_units 0 net.inputs) = omega arith in
    let fit = fit_after z S V R plan start 0 equations [] plan.reached refl refl refl (length-reached outputs 0 equations) (record { at = λ j. ap (λ (k : ℕ). slice_index_or plan.reached k false) (omega arith) }) counted allowed (inputs_count 0 equations ∙ omega arith) tt (subst (λ (k : ℕ). Sized z k rest) zero_plus sized.1) in
    subst (λ (k : ℕ). FitAfter z V R k rest (cut_whole plan).values) n fit

pub with_values : (equations : List EquationShape) (widths : List ℕ) (outputs : List Operand) (S V R : ℕ → ℕ → ℕ → Type 0) → (let plan = plan_of equations widths outputs in let net = net_with plan (cut_whole plan) outputs in
    AreCounted plan 0 equations → AreAllowed (λ v. length (cells_of net v)) S V R plan 0 equations → ValuesThere (λ v. length (cells_of net v)) V 0 (cut_whole plan).values)
with_values equations widths outputs S V R counted allowed = (with_fit equations widths outputs S V R counted allowed).values

-- the net of a plan, where its equations have widths and are counted, its states are of the readers' groups, its groups are in order, and its ends are lawful
pub with_lawful : (columns : ℕ) (equations : List EquationShape) (widths : List ℕ) (outputs : List Operand) (S V R : ℕ → ℕ → ℕ → Type 0) → (let plan = plan_of equations widths outputs in let net = net_with plan (cut_whole plan) outputs in
    AllWide plan.widths plan.equations → AreCounted plan 0 equations → AreAllowed (λ v. length (cells_of net v)) S V R plan 0 equations → IsTied net R → IsGrouped net → HasEnds columns net → IsNet columns net)
with_lawful columns equations widths outputs S V R wide counted allowed tied g h =
    let plan = plan_of equations widths outputs in
    let net = net_with plan (cut_whole plan) outputs in
    let start = cut_start equations in
    let good = good_whole plan wide in
    standing_lawful columns net V R (added_after plan start equations) (cut_whole plan).values (record {
      units = added_is plan start equations;
      order = good.order;
      heads = good.heads;
      tied = tied;
      fit = with_fit equations widths outputs S V R counted allowed;
    }) g h
