-- Parts whose cells read cells that are there: how that goes through the ways to join parts.
use Rattle.std.proofs.Common.{◌≡◌, ◌<◌, ◌≤◌, ℕ, zero, suc, ◌+◌, ◌-◌, ◌/◌, ◌%◌, ◌==◌, Bool, true, false, List, [], ◌∷◌, ◌++◌, length, nat_lt, take, map, refl, subst, sym, arith, inl, inr}
use Rattle.std.specs.Bool.{if◌then◌else◌}
use Rattle.std.specs.List.{range_with_len}
use Rattle.std.proofs.lemmas.Bool.{cases_Bool, eqb-false}
use Rattle.std.proofs.lemmas.List.FromFn.{length-map-range_with_len}
use Rattle.pr_net.specs.declared.cells.Slice.{Slice}
use Rattle.pr_net.specs.declared.cells.Wire.{Wire}
use Rattle.pr_net.specs.declared.cells.WireBit.{WireBit}
use Rattle.pr_net.specs.declared.cells.Cell.{Cell}
use Rattle.pr_net.specs.Shape.{wire_of}
use Rattle.pr_net.specs.Nets.{IsLawfulCarry}
use Rattle.pr_cut_units.specs.Cells.{slice_at, byte, byte_below, bit_of, with_left, with_right}
use Rattle.pr_cut_units.specs.Parts.{Part, Making, each, kept, one_unit, followed_by, above, filled, in_turn}

-- the wires that are there: z says how many cells a unit has, and T which states may be read
abbrev pub IsThere : (ℕ → ℕ) → (ℕ → ℕ → Type 0) → Wire → Type 0
IsThere z T (Wire.Const k) = Unit {0}
IsThere z T (Wire.Of u i) = i < z u
IsThere z T (Wire.State u i) = T u i
IsThere z T (Wire.Bus i) = ⊥

abbrev pub IsBitThere : (ℕ → ℕ) → (ℕ → ℕ → Type 0) → WireBit → Type 0
IsBitThere z T WireBit.None = Unit {0}
IsBitThere z T (WireBit.Of w k) = IsThere z T w × (k < 8)
IsBitThere z T WireBit.CarryIn = Unit {0}

pub record IsFit (z : ℕ → ℕ) (T : ℕ → ℕ → Type 0) (k : Cell) : Type 0 where
  pub a : IsThere z T k.a
  pub hi : IsThere z T k.hi
  pub lo : IsThere z T k.lo
  pub c : IsBitThere z T k.c
  pub carry : IsLawfulCarry k.c k.cin
  pub shift : k.shift < 8

abbrev pub AllFit : (ℕ → ℕ) → (ℕ → ℕ → Type 0) → List Cell → Type 0
AllFit z T [] = Unit {0}
AllFit z T (k ∷ ks) = IsFit z T k × AllFit z T ks

-- units with cells, all of them fit
abbrev pub UnitsFit : (ℕ → ℕ) → (ℕ → ℕ → Type 0) → List (List Cell) → Type 0
UnitsFit z T [] = Unit {0}
UnitsFit z T (ks ∷ units) = ((0 < length ks) × AllFit z T ks) × UnitsFit z T units

abbrev pub AreThere : (ℕ → ℕ) → (ℕ → ℕ → Type 0) → List Slice → Type 0
AreThere z T [] = Unit {0}
AreThere z T (s ∷ x) = IsThere z T (wire_of s) × AreThere z T x

-- units from number u on have the sizes that z says
abbrev pub Sized : (ℕ → ℕ) → ℕ → List (List Cell) → Type 0
Sized z u [] = Unit {0}
Sized z u (ks ∷ units) = (z u ≡ length ks) × Sized z (suc u) units

pub record FitPart (z : ℕ → ℕ) (T : ℕ → ℕ → Type 0) (p : Part) : Type 0 where
  pub units : UnitsFit z T p.units
  pub slices : AreThere z T p.slices

-- a part that is fit wherever its units stand
pub record FitMaking (z : ℕ → ℕ) (T : ℕ → ℕ → Type 0) (making : Making) : Type 0 where
  pub at : (u : ℕ) → Sized z u (making u).units → FitPart z T (making u)

-- ---- slices
pub there_at : (z : ℕ → ℕ) (T : ℕ → ℕ → Type 0) (x : List Slice) (i : ℕ) → AreThere z T x → IsThere z T (byte x i)
there_at z T [] i h = tt
there_at z T (s ∷ x) zero h = h.0
there_at z T (s ∷ x) (suc i) h = there_at z T x i h.1

pub there_below : (z : ℕ → ℕ) (T : ℕ → ℕ → Type 0) (x : List Slice) (i q : ℕ) → AreThere z T x → IsThere z T (byte_below x i q)
there_below z T x i q h = elim (nat_lt i q) as (λ t. IsThere z T (wire_of (if t then Slice.Const 0 else slice_at x (i - q)))) [ true ↦ tt | false ↦ there_at z T x (i - q) h ]

pub there_bit : (z : ℕ → ℕ) (T : ℕ → ℕ → Type 0) (x : List Slice) (k : ℕ) → AreThere z T x → IsBitThere z T (bit_of x k)
there_bit z T x k h = (there_at z T x (k / 8) h, omega arith)

pub there-append : (z : ℕ → ℕ) (T : ℕ → ℕ → Type 0) (x y : List Slice) → AreThere z T x → AreThere z T y → AreThere z T (x ++ y)
there-append z T [] y h k = k
there-append z T (s ∷ x) y h k = (h.0, there-append z T x y h.1 k)

pub there-take : (z : ℕ → ℕ) (T : ℕ → ℕ → Type 0) (n : ℕ) (x : List Slice) → AreThere z T x → AreThere z T (take n x)
there-take z T zero x h = tt
there-take z T (suc n) [] h = tt
there-take z T (suc n) (s ∷ x) h = (h.0, there-take z T n x h.1)

pub there-each : (z : ℕ → ℕ) (T : ℕ → ℕ → Type 0) (n : ℕ) (f : ℕ → Slice) → ((i : ℕ) → i < n → IsThere z T (wire_of (f i))) → AreThere z T (each n f)
there-each z T n f h = go 0 n (omega arith)
  where
    go : (a m : ℕ) → a + m ≤ n → AreThere z T (map f (range_with_len a m))
    go a zero l = tt
    go a (suc m) l = (h a (omega (arith, l)), go (a + 1) m (omega (arith, l)))

pub fit-each : (z : ℕ → ℕ) (T : ℕ → ℕ → Type 0) (n : ℕ) (f : ℕ → Cell) → ((i : ℕ) → IsFit z T (f i)) → AllFit z T (each n f)
fit-each z T n f h = go 0 n
  where
    go : (a m : ℕ) → AllFit z T (map f (range_with_len a m))
    go a zero = tt
    go a (suc m) = (h a, go (a + 1) m)

-- ---- cells with shifted bytes
pub fit_left : (z : ℕ → ℕ) (T : ℕ → ℕ → Type 0) (x : List Slice) (k i : ℕ) (cell : Cell) → AreThere z T x → IsFit z T cell → IsFit z T (with_left x k i cell)
fit_left z T x k i cell h g = record {
  a = g.a;
  hi = there_below z T x i (k / 8) h;
  lo = elim (k % 8 == 0) as (λ t. IsThere z T (if t then Wire.Const 0 else byte_below x i (k / 8 + 1))) [ true ↦ tt | false ↦ there_below z T x i (k / 8 + 1) h ];
  c = g.c;
  carry = g.carry;
  shift = omega arith;
}

pub fit_right : (z : ℕ → ℕ) (T : ℕ → ℕ → Type 0) (x : List Slice) (k i : ℕ) (cell : Cell) → AreThere z T x → IsFit z T cell → IsFit z T (with_right x k i cell)
fit_right z T x k i cell h g = record {
  a = g.a;
  hi = elim (k % 8 == 0) as (λ t. IsThere z T (if t then byte x (i + k / 8) else byte x (i + k / 8 + 1))) [ true ↦ there_at z T x (i + k / 8) h | false ↦ there_at z T x (i + k / 8 + 1) h ];
  lo = elim (k % 8 == 0) as (λ t. IsThere z T (if t then Wire.Const 0 else byte x (i + k / 8))) [ true ↦ tt | false ↦ there_at z T x (i + k / 8) h ];
  c = g.c;
  carry = g.carry;
  shift = elim (cases_Bool (k % 8 == 0)) [
    | inl e ↦ subst (λ (t : Bool). (if t then 0 else 8 - k % 8) < 8) (sym e) (omega arith)
    | inr e ↦ subst (λ (t : Bool). (if t then 0 else 8 - k % 8) < 8) (sym e) (let some = eqb-false (k % 8) 0 e in some_less (k % 8) some)
  ];
}
  where
    some_less : (r : ℕ) → (r ≡ 0 → ⊥) → 8 - r < 8
    some_less zero h = absurd (h refl)
    some_less (suc r) h = omega arith

-- ---- parts
pub sized-append : (z : ℕ → ℕ) (u : ℕ) (us vs : List (List Cell)) → Sized z u (us ++ vs) → Sized z u us × Sized z (u + length us) vs
sized-append z u [] vs h = (tt, subst (λ (n : ℕ). Sized z n vs) (omega arith) h)
sized-append z u (ks ∷ us) vs h = let t = sized-append z (suc u) us vs h.1 in ((h.0, t.0), subst (λ (n : ℕ). Sized z n vs) (omega arith) t.1)

pub units-append : (z : ℕ → ℕ) (T : ℕ → ℕ → Type 0) (us vs : List (List Cell)) → UnitsFit z T us → UnitsFit z T vs → UnitsFit z T (us ++ vs)
units-append z T [] vs h k = k
units-append z T (ks ∷ us) vs h k = (h.0, units-append z T us vs h.1 k)

pub fit_kept : (z : ℕ → ℕ) (T : ℕ → ℕ → Type 0) (x : List Slice) → AreThere z T x → FitMaking z T (kept x)
fit_kept z T x h = record { at = λ u s. record { units = tt; slices = h } }

pub fit_unit : (z : ℕ → ℕ) (T : ℕ → ℕ → Type 0) (n : ℕ) (cell : ℕ → Cell) → 0 < n → ((i : ℕ) → IsFit z T (cell i)) → FitMaking z T (one_unit n cell)
fit_unit z T n cell some h = record {
  at = λ u s. (let long : length (each n cell) ≡ n = length-map-range_with_len cell 0 n in
      let size : z u ≡ length (each n cell) = s.0 in
      record {
        units = ((omega (arith, long, some), fit-each z T n cell h), tt);
        slices = there-each z T n (λ i. Slice.Of u i) (λ i l. omega (arith, l, long, size));
      });
}

pub fit_then : (z : ℕ → ℕ) (T : ℕ → ℕ → Type 0) (first : Making) (second : List Slice → Making) → FitMaking z T first → ((x : List Slice) → AreThere z T x → FitMaking z T (second x)) → FitMaking z T (followed_by first second)
fit_then z T first second p q = record {
  at = λ u s. (let us = (first u).units in
      let v : ℕ = u + length us in
      let vs = (second (first u).slices v).units in
      let both = sized-append z u us vs s in
      let f = p.at u both.0 in
      let g = (q (first u).slices f.slices).at v both.1 in
      record { units = units-append z T us vs f.units g.units; slices = g.slices });
}

pub fit_above : (z : ℕ → ℕ) (T : ℕ → ℕ → Type 0) (low : List Slice) (making : Making) → AreThere z T low → FitMaking z T making → FitMaking z T (above low making)
fit_above z T low making h p = record { at = λ u s. (let f = p.at u s in record { units = f.units; slices = there-append z T low (making u).slices h f.slices }) }

pub fit_filled : (z : ℕ → ℕ) (T : ℕ → ℕ → Type 0) (n : ℕ) (making : Making) → FitMaking z T making → FitMaking z T (filled n making)
fit_filled z T n making p = record { at = λ u s. (let f = p.at u s in record { units = f.units; slices = there-each z T n (slice_at (making u).slices) (λ i l. there_at z T (making u).slices i f.slices) }) }

pub fit_turns : (z : ℕ → ℕ) (T : ℕ → ℕ → Type 0) (step : ℕ → List Slice → Making) (j n : ℕ) (x : List Slice) → ((i : ℕ) (y : List Slice) → i < j + n → AreThere z T y → FitMaking z T (step i y)) → AreThere z T x → FitMaking z T (in_turn step j n x)
fit_turns z T step j zero x s h = record { at = λ u t. record { units = tt; slices = h } }
fit_turns z T step j (suc n) x s h =
    let p = fit_then z T (step j x) (in_turn step (j + 1) n) (s j x (omega arith) h) (λ y k. fit_turns z T step (j + 1) n y (λ i w l. s i w (omega (arith, l))) k) in
    record { at = λ u t. p.at u t }

pub fit_either : (z : ℕ → ℕ) (T : ℕ → ℕ → Type 0) (b : Bool) (m n : Making) → (b ≡ true → FitMaking z T m) → (b ≡ false → FitMaking z T n) → FitMaking z T (if b then m else n)
fit_either z T true m n g h = g refl
fit_either z T false m n g h = h refl
