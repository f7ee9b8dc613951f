-- Chains: their cells read cells that are there, and so do who reads their slices.
use Rattle.std.proofs.Common.{◌≡◌, ◌<◌, ◌≤◌, ℕ, zero, suc, List, [], ◌∷◌, ◌++◌, length, map, subst, refl, ap, ◌∙◌, arith, length-append}
use Rattle.pr_base.specs.declared.choices.Carry.{Carry}
use Rattle.pr_net.specs.declared.cells.Slice.{Slice}
use Rattle.pr_net.specs.declared.cells.Wire.{Wire}
use Rattle.pr_net.specs.declared.cells.WireBit.{WireBit}
use Rattle.pr_net.specs.declared.cells.Cell.{Cell}
use Rattle.pr_net.specs.Nets.{IsLawfulCarry}
use Rattle.pr_cut_units.specs.declared.chains.Style.{Style}
use Rattle.pr_cut_units.specs.Chains.{linked, carried, carry_cell, entry_of, taking, entries, segments, places, place_after, chain, closed_chain}
use Rattle.pr_cut_units.proofs.FitParts.{IsFit, AllFit, UnitsFit, AreThere, Sized, FitMaking}

-- a carry-in that any C may stand beside
abbrev pub IsSteady : Carry → Type 0
IsSteady Carry.Zero = Unit {0}
IsSteady Carry.One = Unit {0}
IsSteady Carry.Chain = Unit {0}
IsSteady Carry.FromC = ⊥

steady_lawful : (c : WireBit) (cin : Carry) → IsSteady cin → IsLawfulCarry c cin
steady_lawful c Carry.Zero h = tt
steady_lawful c Carry.One h = tt
steady_lawful c Carry.Chain h = tt
steady_lawful c Carry.FromC h = absurd h

fit_carry : (z : ℕ → ℕ) (T : ℕ → ℕ → Type 0) (cin : Carry) (k : Cell) → IsSteady cin → IsFit z T k → IsFit z T (record k { cin = cin })
fit_carry z T cin k s g = record { a = g.a; hi = g.hi; lo = g.lo; c = g.c; carry = steady_lawful k.c cin s; shift = g.shift }

fit_linked : (z : ℕ → ℕ) (T : ℕ → ℕ → Type 0) (first : Carry) (ks : List Cell) → IsSteady first → AllFit z T ks → AllFit z T (linked first ks)
fit_linked z T first [] s h = tt
fit_linked z T first (k ∷ ks) s h = (fit_carry z T first k s h.0, go ks h.1)
  where
    go : (ks : List Cell) → AllFit z T ks → AllFit z T (map (λ (k : Cell). record k { cin = Carry.Chain }) ks)
    go [] h = tt
    go (k ∷ ks) h = (fit_carry z T Carry.Chain k tt h.0, go ks h.1)

fit-append : (z : ℕ → ℕ) (T : ℕ → ℕ → Type 0) (xs ys : List Cell) → AllFit z T xs → AllFit z T ys → AllFit z T (xs ++ ys)
fit-append z T [] ys h k = k
fit-append z T (x ∷ xs) ys h k = (h.0, fit-append z T xs ys h.1 k)

fit_carried : (z : ℕ → ℕ) (T : ℕ → ℕ → Type 0) (table : ℕ) → IsFit z T (carried table)
fit_carried z T table = record { a = tt; hi = tt; lo = tt; c = tt; carry = tt; shift = omega arith }

-- how a later segment begins
fit_start : (z : ℕ → ℕ) (T : ℕ → ℕ → Type 0) (s : Style) (u i : ℕ) (k : Cell) → i < z u → IsFit z T k → AllFit z T (entry_of s (Wire.Of u i) ++ taking s (Wire.Of u i) k ∷ [])
fit_start z T Style.ByBit u i k l g = (record { a = g.a; hi = g.hi; lo = g.lo; c = (l, omega arith); carry = tt; shift = g.shift }, tt)
fit_start z T Style.ByEntry u i k l g = (record { a = l; hi = tt; lo = tt; c = tt; carry = tt; shift = omega arith }, (g, tt))

length-start : (s : Style) (w : Wire) (k : Cell) → length (entry_of s w ++ taking s w k ∷ []) ≡ suc (entries s)
length-start Style.ByBit w k = refl
length-start Style.ByEntry w k = refl

-- a unit has the cells that it has already
first_size : (z : ℕ → ℕ) (s : Style) (u room : ℕ) (cells close ks : List Cell) → Sized z u (segments s u room cells close ks) → length cells ≤ z u
first_size z s u room cells close [] h = let e = h.0 in omega (arith, e, length-append cells close)
first_size z s u zero cells close (k ∷ ks) h = let e = h.0 in omega (arith, e, length-append cells (carry_cell ∷ []))
first_size z s u (suc room) cells close (k ∷ ks) h = let e = first_size z s u room (cells ++ k ∷ []) close ks h in omega (arith, e, length-append cells (k ∷ []))

segments_fit : (z : ℕ → ℕ) (T : ℕ → ℕ → Type 0) (s : Style) (u room : ℕ) (cells close ks : List Cell) → 0 < length cells → AllFit z T cells → AllFit z T close → AllFit z T ks → Sized z u (segments s u room cells close ks) → UnitsFit z T (segments s u room cells close ks)
segments_fit z T s u room cells close [] some hc he hk h = ((omega (arith, some, length-append cells close), fit-append z T cells close hc he), tt)
segments_fit z T s u zero cells close (k ∷ ks) some hc he hk h =
    let e : z u ≡ length (cells ++ carry_cell ∷ []) = h.0 in
    let l : length cells < z u = omega (arith, e, length-append cells (carry_cell ∷ [])) in
    let start = entry_of s (Wire.Of u (length cells)) ++ taking s (Wire.Of u (length cells)) k ∷ [] in (
      (omega (arith, some, length-append cells (carry_cell ∷ [])), fit-append z T cells (carry_cell ∷ []) hc (fit_carried z T 240, tt)),
      segments_fit z T s (suc u) 3 start close ks (omega (arith, length-start s (Wire.Of u (length cells)) k)) (fit_start z T s u (length cells) k l hk.0) he hk.1 h.1,
    )
segments_fit z T s u (suc room) cells close (k ∷ ks) some hc he hk h = segments_fit z T s u room (cells ++ k ∷ []) close ks (omega (arith, length-append cells (k ∷ []))) (fit-append z T cells (k ∷ []) hc (hk.0, tt)) he hk.1 h

places_there : (z : ℕ → ℕ) (T : ℕ → ℕ → Type 0) (s : Style) (u room place : ℕ) (cells close ks : List Cell) → length cells ≡ place → Sized z u (segments s u room cells close ks) → AreThere z T (places s u room place ks)
places_there z T s u room place cells close [] e h = tt
places_there z T s u zero place cells close (k ∷ ks) e h =
    let w : Wire = Wire.Of u (length cells) in
    let start = entry_of s w ++ taking s w k ∷ [] in
    let l = first_size z s (suc u) 3 start close ks h.1 in
    (omega (arith, l, length-start s w k), places_there z T s (suc u) 3 (suc (entries s)) start close ks (length-start s w k) h.1)
places_there z T s u (suc room) place cells close (k ∷ ks) e h =
    let l = first_size z s u room (cells ++ k ∷ []) close ks h in
    let more = length-append cells (k ∷ []) in
    (omega (arith, l, more, e), places_there z T s u room (suc place) (cells ++ k ∷ []) close ks (more ∙ omega (arith, e)) h)

after_there : (z : ℕ → ℕ) (T : ℕ → ℕ → Type 0) (s : Style) (u room place : ℕ) (cells : List Cell) (last : Cell) (ks : List Cell) → length cells ≡ place → Sized z u (segments s u room cells (last ∷ []) ks) → AreThere z T (place_after s u room place ks ∷ [])
after_there z T s u room place cells last [] e h = let q = h.0 in (omega (arith, q, e, length-append cells (last ∷ [])), tt)
after_there z T s u zero place cells last (k ∷ ks) e h =
    let w : Wire = Wire.Of u (length cells) in
    after_there z T s (suc u) 3 (suc (entries s)) (entry_of s w ++ taking s w k ∷ []) last ks (length-start s w k) h.1
after_there z T s u (suc room) place cells last (k ∷ ks) e h = after_there z T s u room (suc place) (cells ++ k ∷ []) last ks (length-append cells (k ∷ []) ∙ omega (arith, e)) h

-- only their number counts
places_same : (s : Style) (u room place : ℕ) (ks ls : List Cell) → length ks ≡ length ls → places s u room place ks ≡ places s u room place ls
places_same s u room place [] [] e = refl
places_same s u room place [] (l ∷ ls) e = absurd (omega arith)
places_same s u room place (k ∷ ks) [] e = absurd (omega arith)
places_same s u zero place (k ∷ ks) (l ∷ ls) e = ap (λ (x : List Slice). Slice.Of (suc u) (entries s) ∷ x) (places_same s (suc u) 3 (suc (entries s)) ks ls (omega (arith, e)))
places_same s u (suc room) place (k ∷ ks) (l ∷ ls) e = ap (λ (x : List Slice). Slice.Of u place ∷ x) (places_same s u room (suc place) ks ls (omega (arith, e)))

after_same : (s : Style) (u room place : ℕ) (ks ls : List Cell) → length ks ≡ length ls → place_after s u room place ks ≡ place_after s u room place ls
after_same s u room place [] [] e = refl
after_same s u room place [] (l ∷ ls) e = absurd (omega arith)
after_same s u room place (k ∷ ks) [] e = absurd (omega arith)
after_same s u zero place (k ∷ ks) (l ∷ ls) e = after_same s (suc u) 3 (suc (entries s)) ks ls (omega (arith, e))
after_same s u (suc room) place (k ∷ ks) (l ∷ ls) e = after_same s u room (suc place) ks ls (omega (arith, e))

length-chained : (ks : List Cell) → length (map (λ (k : Cell). record k { cin = Carry.Chain }) ks) ≡ length ks
length-chained [] = refl
length-chained (k ∷ ks) = ap suc (length-chained ks)

pub fit_chain : (z : ℕ → ℕ) (T : ℕ → ℕ → Type 0) (s : Style) (first : Carry) (cells : List Cell) → 0 < length cells → IsSteady first → AllFit z T cells → FitMaking z T (chain s first cells)
fit_chain z T s first [] some f h = absurd (omega (arith, some))
fit_chain z T s first (k ∷ ks) some f h = record {
  at = λ u t. (let l = fit_linked z T first (k ∷ ks) f h in
      let rest = map (λ (k : Cell). record k { cin = Carry.Chain }) ks in
      let head : List Cell = record k { cin = first } ∷ [] in
      record {
        units = segments_fit z T s u 3 head [] rest (omega arith) (l.0, tt) tt l.1 t;
        slices = subst (λ (x : List Slice). AreThere z T x) (places_same s u 4 0 (linked first (k ∷ ks)) (k ∷ ks) (ap suc (length-chained ks))) (places_there z T s u 4 0 [] [] (linked first (k ∷ ks)) refl t);
      });
}

pub fit_closed : (z : ℕ → ℕ) (T : ℕ → ℕ → Type 0) (first : Carry) (table : ℕ) (cells : List Cell) → 0 < length cells → IsSteady first → AllFit z T cells → FitMaking z T (closed_chain first table cells)
fit_closed z T first table [] some f h = absurd (omega (arith, some))
fit_closed z T first table (k ∷ ks) some f h = record {
  at = λ u t. (let l = fit_linked z T first (k ∷ ks) f h in
      let rest = map (λ (k : Cell). record k { cin = Carry.Chain }) ks in
      let head : List Cell = record k { cin = first } ∷ [] in
      record {
        units = segments_fit z T Style.ByBit u 3 head (carried table ∷ []) rest (omega arith) (l.0, tt) (fit_carried z T table, tt) l.1 t;
        slices = subst (λ (x : Slice). AreThere z T (x ∷ [])) (after_same Style.ByBit u 4 0 (linked first (k ∷ ks)) (k ∷ ks) (ap suc (length-chained ks))) (after_there z T Style.ByBit u 4 0 [] (carried table) (linked first (k ∷ ks)) refl t);
      });
}
