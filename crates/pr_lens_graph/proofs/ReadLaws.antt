-- The units that wires read, with one more wire.
use Rattle.std.proofs.Common.{◌≡◌, ◌∙◌, ◌==◌, ◌||◌, ◌∷◌, ◌++◌, ℕ, Bool, true, false, not, List, [], Option, Some, None, refl, sym, ap, subst, append-nil, append_assoc, inl, inr}
use Rattle.std.specs.Prelude.{filter, if◌then◌else◌}
use Rattle.std.specs.Global.{Vec}
use Rattle.std.specs.List.{filter_map}
use Rattle.std.proofs.lemmas.Bool.{cases_Bool, eqb-true}
use Rattle.std.proofs.lemmas.List.Elements.{filter-append, filter_map-append}
use Rattle.pr_net.specs.declared.cells.Cell.{Cell}
use Rattle.pr_net.specs.declared.cells.Wire.{Wire}
use Rattle.pr_cut_units.specs.Groups.{bit_wires, cell_wires, is_among}
use Rattle.pr_lens_graph.specs.declared.wires.Reads.{Reads}
use Rattle.pr_lens_graph.specs.Reads.{AreReads, byte_unit, state_unit, firsts}

-- ---- each number once
abbrev others : ℕ → List ℕ → List ℕ
others n ms = filter (λ m. not (n == m)) ms

-- another number is among the others where it is among all
among_others : (n m : ℕ) (ms : List ℕ) → (n == m) ≡ false → is_among m (others n ms) ≡ is_among m ms
among_others n m [] apart = refl
among_others n m (k ∷ ks) apart = elim (cases_Bool (n == k)) [
  | inl same ↦ (
      let here : (k == m) ≡ false = subst (λ (j : ℕ). (j == m) ≡ false) (eqb-true n k same) apart in
      rw (same, here) (among_others n m ks apart))
  | inr differs ↦ rw differs (ap (λ (b : Bool). (k == m) || b) (among_others n m ks apart))
]

abbrev pub noted : List ℕ → ℕ → List ℕ
noted ns m = if is_among m ns then ns else ns ++ m ∷ []

noted_behind : (n m : ℕ) (ns : List ℕ) → n ∷ others n (noted ns m) ≡ noted (n ∷ others n ns) m
noted_behind n m ns = elim (cases_Bool (n == m)) [
  | inl same ↦ elim (cases_Bool (is_among m ns)) [
    | inl among ↦ rw (same, among) refl
    | inr new ↦ rw (same, new) (ap (λ (l : List ℕ). n ∷ l) (filter-append (λ m. not (n == m)) ns (m ∷ []) ∙ rw same (append-nil (others n ns))))
  ]
  | inr differs ↦ elim (cases_Bool (is_among m ns)) [
    | inl among ↦ rw (among, differs, among_others n m ns differs, among) refl
    | inr new ↦ rw (new, differs, among_others n m ns differs, new) (ap (λ (l : List ℕ). n ∷ l) (filter-append (λ m. not (n == m)) ns (m ∷ []) ∙ rw differs refl))
  ]
]

pub firsts_more : (ns : List ℕ) (m : ℕ) → firsts (ns ++ m ∷ []) ≡ noted (firsts ns) m
unfolding firsts
firsts_more [] m = refl
firsts_more (n ∷ ns) m = ap (λ (l : List ℕ). n ∷ others n l) (firsts_more ns m) ∙ noted_behind n m (firsts ns)

-- ---- one number more
module _ (all seen : List ℕ) (number : ℕ) (is : all ≡ firsts seen) where
  noted_by : (b : Bool) → is_among number all ≡ b → firsts (seen ++ number ∷ []) ≡ if b then all else all ++ number ∷ []
  noted_by b among = firsts_more seen number ∙ (ap (λ (ns : List ℕ). noted ns number) (sym is) ∙ ap (λ (t : Bool). if t then all else all ++ number ∷ []) among)

  pub known_noted : is_among number all ≡ true → all ≡ firsts (seen ++ number ∷ [])
  known_noted among = sym (noted_by true among)

  pub new_noted : (now : List ℕ) → is_among number all ≡ false → now ≡ all ++ number ∷ [] → now ≡ firsts (seen ++ number ∷ [])
  new_noted now new put = put ∙ sym (noted_by false new)

-- ---- one wire more
module _ (unit_of : Wire → Option ℕ) (seen : List Wire) (wire : Wire) where
  none_more : unit_of wire ≡ None → firsts (filter_map unit_of seen) ≡ firsts (filter_map unit_of (seen ++ wire ∷ []))
  none_more none = ap firsts (sym (filter_map-append unit_of seen (wire ∷ []) ∙ rw none (append-nil (filter_map unit_of seen))))

  one_more : (unit : ℕ) → unit_of wire ≡ Some unit → firsts (filter_map unit_of seen ++ unit ∷ []) ≡ firsts (filter_map unit_of (seen ++ wire ∷ []))
  one_more unit one = ap firsts (sym (filter_map-append unit_of seen (wire ∷ []) ∙ rw one refl))

module _ (reads : Reads) (seen : List Wire) (wire : Wire) (are : AreReads reads seen) where
  pub unread : byte_unit wire ≡ None → state_unit wire ≡ None → AreReads reads (seen ++ wire ∷ [])
  unread byte state = record { bytes = are.bytes ∙ none_more byte_unit seen wire byte; states = are.states ∙ none_more state_unit seen wire state }

  pub byte_read : (unit : ℕ) (now : Vec ℕ) → byte_unit wire ≡ Some unit → state_unit wire ≡ None
      → ((ns : List ℕ) → reads.bytes.items ≡ firsts ns → now.items ≡ firsts (ns ++ unit ∷ []))
      → AreReads (record { bytes = now; states = reads.states }) (seen ++ wire ∷ [])
  byte_read unit now byte state noted = record {
    bytes = noted (filter_map byte_unit seen) are.bytes ∙ one_more byte_unit seen wire unit byte;
    states = are.states ∙ none_more state_unit seen wire state;
  }

  pub state_read : (unit : ℕ) (now : Vec ℕ) → byte_unit wire ≡ None → state_unit wire ≡ Some unit
      → ((ns : List ℕ) → reads.states.items ≡ firsts ns → now.items ≡ firsts (ns ++ unit ∷ []))
      → AreReads (record { bytes = reads.bytes; states = now }) (seen ++ wire ∷ [])
  state_read unit now byte state noted = record {
    bytes = are.bytes ∙ none_more byte_unit seen wire byte;
    states = noted (filter_map state_unit seen) are.states ∙ one_more state_unit seen wire unit state;
  }

-- the wires of a cell, one after the other
pub wires_of_cell : (seen : List Wire) (cell : Cell) (rest : List Wire) → bit_wires cell.c ≡ rest
    → (((seen ++ cell.a ∷ []) ++ cell.hi ∷ []) ++ cell.lo ∷ []) ++ rest ≡ seen ++ cell_wires cell
wires_of_cell seen cell rest is = rw is (simp append_assoc)
