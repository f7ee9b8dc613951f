-- Marks of the cells that outputs have.
use Rattle.std.proofs.Common.{◌≡◌, ℕ, suc, ◌+◌, ◌<◌, ◌==◌, ◌&&◌, ◌||◌, Bool, true, false, List, [], ◌∷◌, length, get_or, set, replicate, refl, sym, ap, ap₂, ◌∙◌, subst, arith, inl, inr, get_or-set_same, get_or-set_other, length-set}
use Rattle.std.specs.List.{list_any}
use Rattle.std.proofs.lemmas.Bool.{cases_eq, and_parts, eqb-true, eq-eqb, ne_eqb, and_from, false_from_ne_true}
use Rattle.std.proofs.lemmas.List.{get_or-replicate, length-replicate}
use Rattle.pr_net.specs.declared.cells.Slice.{Slice}
use Rattle.pr_net.specs.Shape.{OutputShape, NetShape}
use Rattle.pr_net.specs.Nets.{is_slice_of, is_output, IsLawfulSlice, IsLawfulOutput, IsNet}
use Rattle.pr_place.specs.Numbering.{IsNumbered, IsSliceBelow, marked, marked_all, marked_outputs}
use Rattle.pr_place.specs.Tracking.{IsCellOf}
use Rattle.pr_place.proofs.Held.{any_same}
use Rattle.pr_place.proofs.NumberLemmas.{first_long, number_below, number_apart}

-- a slice that is the byte of the cell of this number
abbrev is_numbered : List ℕ → ℕ → Slice → Bool
is_numbered first x (Slice.Const k) = false
is_numbered first x (Slice.Of u i) = get_or first u 0 + i == x
is_numbered first x (Slice.State u i) = false

or_none : (b : Bool) → b ≡ (b || false)
or_none true = refl
or_none false = refl

or_assoc : (a b c : Bool) → ((a || b) || c) ≡ (a || (b || c))
or_assoc true b c = refl
or_assoc false b c = refl

or_set : (b : Bool) → true ≡ (b || true)
or_set true = refl
or_set false = refl

mark_long : (first : List ℕ) (kept : List Bool) (s : Slice) → length (marked first kept s) ≡ length kept
mark_long first kept (Slice.Const k) = refl
mark_long first kept (Slice.Of u i) = length-set kept (get_or first u 0 + i) true
mark_long first kept (Slice.State u i) = refl

mark_at : (first : List ℕ) (kept : List Bool) (s : Slice) (x : ℕ) → IsSliceBelow first (length kept) s → get_or (marked first kept s) x false ≡ (get_or kept x false || is_numbered first x s)
mark_at first kept (Slice.Const k) x h = or_none (get_or kept x false)
mark_at first kept (Slice.State u i) x h = or_none (get_or kept x false)
mark_at first kept (Slice.Of u i) x h =
    let n = get_or first u 0 + i in
    elim (cases_eq n x) [
      | inl same ↦
          subst (λ (k : ℕ). get_or (set kept n true) k false ≡ (get_or kept k false || (n == k))) same
          (get_or-set_same kept n true false h.1 ∙ or_set (get_or kept n false) ∙ ap (λ (b : Bool). get_or kept n false || b) (sym (eq-eqb n n refl)))
      | inr ne ↦ get_or-set_other kept n x true false (λ q. ne (sym q)) ∙ or_none (get_or kept x false) ∙ ap (λ (b : Bool). get_or kept x false || b) (sym (ne_eqb n x ne))
    ]

pub marks_long : (first : List ℕ) (kept : List Bool) (slices : List Slice) → length (marked_all first kept slices) ≡ length kept
marks_long first kept [] = refl
marks_long first kept (s ∷ slices) = marks_long first (marked first kept s) slices ∙ mark_long first kept s

-- slices whose cells have numbers below a bound
pub record AllBelow (first : List ℕ) (cells : ℕ) (slices : List Slice) : Type 0 where
  pub at : (i : ℕ) (d : Slice) → i < length slices → IsSliceBelow first cells (get_or slices i d)

rest_below : (first : List ℕ) (cells : ℕ) (s : Slice) (slices : List Slice) → AllBelow first cells (s ∷ slices) → AllBelow first cells slices
rest_below first cells s slices h = record { at = λ i d l. h.at (suc i) d (omega (arith, l)) }

marks_at : (first : List ℕ) (kept : List Bool) (slices : List Slice) (x : ℕ) → AllBelow first (length kept) slices → get_or (marked_all first kept slices) x false ≡ (get_or kept x false || list_any (is_numbered first x) slices)
marks_at first kept [] x h = or_none (get_or kept x false)
marks_at first kept (s ∷ slices) x h =
    marks_at first (marked first kept s) slices x (subst (λ (n : ℕ). AllBelow first n slices) (sym (mark_long first kept s)) (rest_below first (length kept) s slices h))
    ∙ ap (λ (b : Bool). b || list_any (is_numbered first x) slices) (mark_at first kept s x (h.at 0 s (omega arith)))
    ∙ or_assoc (get_or kept x false) (is_numbered first x s) (list_any (is_numbered first x) slices)

outputs_at : (first : List ℕ) (kept : List Bool) (outputs : List OutputShape) (x : ℕ) → ((o : ℕ) (e : OutputShape) → o < length outputs → AllBelow first (length kept) (get_or outputs o e).slices)
    → get_or (marked_outputs first kept outputs) x false ≡ (get_or kept x false || list_any (λ o. list_any (is_numbered first x) o.slices) outputs)
outputs_at first kept [] x h = or_none (get_or kept x false)
outputs_at first kept (o ∷ outputs) x h =
    outputs_at first (marked_all first kept o.slices) outputs x (λ k e l. subst (λ (n : ℕ). AllBelow first n (get_or outputs k e).slices) (sym (marks_long first kept o.slices)) (h (suc k) e (omega (arith, l))))
    ∙ ap (λ (b : Bool). b || list_any (λ o. list_any (is_numbered first x) o.slices) outputs) (marks_at first kept o.slices x (h 0 o (omega arith)))
    ∙ or_assoc (get_or kept x false) (list_any (is_numbered first x) o.slices) (list_any (λ o. list_any (is_numbered first x) o.slices) outputs)

pub outputs_long : (first : List ℕ) (kept : List Bool) (outputs : List OutputShape) → length (marked_outputs first kept outputs) ≡ length kept
outputs_long first kept [] = refl
outputs_long first kept (o ∷ outputs) = outputs_long first (marked_all first kept o.slices) outputs ∙ marks_long first kept o.slices

-- ---- the slices of a lawful net
slice_below : (net : NetShape) (first : List ℕ) (cells : ℕ) (s : Slice) → IsNumbered net.units first cells → IsLawfulSlice net s → IsSliceBelow first cells s
slice_below net first cells (Slice.Const k) h w = tt
slice_below net first cells (Slice.Of u i) h w = (let long = first_long net.units first cells h in omega (arith, long, w.0), number_below net.units first cells u i h w.0 w.1)
slice_below net first cells (Slice.State u i) h w = absurd w

pub slices_below : (N : ℕ) (net : NetShape) (first : List ℕ) (cells : ℕ) → IsNet N net → IsNumbered net.units first cells → (o : ℕ) (e : OutputShape) → o < length net.outputs → AllBelow first cells (get_or net.outputs o e).slices
slices_below N net first cells n h o e l = record { at = λ i d li. slice_below net first cells (get_or (get_or net.outputs o e).slices i d) h ((n.outputs o e l).slices i d li) }

slice_same : (net : NetShape) (first : List ℕ) (cells g u i : ℕ) (s : Slice) → IsNumbered net.units first cells → IsCellOf net g u i → IsLawfulSlice net s → is_numbered first (get_or first u 0 + i) s ≡ is_slice_of u i s
slice_same net first cells g u i (Slice.Const k) h c w = refl
slice_same net first cells g u i (Slice.State v j) h c w = refl
slice_same net first cells g u i (Slice.Of v j) h c w = elim (cases_eq (get_or first v 0 + j) (get_or first u 0 + i)) [
  | inl same ↦
      (let e = number_apart net.units first cells v j u i h w.0 w.1 c.unit c.place same in
      eq-eqb (get_or first v 0 + j) (get_or first u 0 + i) same ∙ sym (and_from (v == u) (j == i) (eq-eqb v u e.0) (eq-eqb j i e.1)))
  | inr ne ↦
      ne_eqb (get_or first v 0 + j) (get_or first u 0 + i) ne ∙ sym (false_from_ne_true ((v == u) && (j == i)) (λ t.
      let p = and_parts (v == u) (j == i) t in
      ne (ap₂ (λ (a b : ℕ). get_or first a 0 + b) (eqb-true v u p.0) (eqb-true j i p.1))))
]

-- a cell is marked exactly where an output has it
pub kept_is : (N : ℕ) (net : NetShape) (first : List ℕ) (cells g u i : ℕ) → IsNet N net → IsNumbered net.units first cells → IsCellOf net g u i → get_or (marked_outputs first (replicate cells false) net.outputs) (get_or first u 0 + i) false ≡ is_output net u i
kept_is N net first cells g u i n h c =
    let x = get_or first u 0 + i in
    let long : length (replicate cells false) ≡ cells = length-replicate cells false in
    outputs_at first (replicate cells false) net.outputs x (λ o e l. subst (λ (m : ℕ). AllBelow first m (get_or net.outputs o e).slices) (sym long) (slices_below N net first cells n h o e l))
    ∙ ap (λ (b : Bool). b || list_any (λ o. list_any (is_numbered first x) o.slices) net.outputs) (get_or-replicate cells x false false (number_below net.units first cells u i h c.unit c.place))
    ∙ any_same (λ (o : OutputShape). list_any (is_numbered first x) o.slices) (λ (o : OutputShape). list_any (is_slice_of u i) o.slices) net.outputs (λ o co. any_same (is_numbered first x) (is_slice_of u i) o.slices (λ s cs.
    let lawful : IsLawfulOutput net o = subst (IsLawfulOutput net) co.2 (n.outputs co.0 o co.1) in
    slice_same net first cells g u i s h c (subst (IsLawfulSlice net) cs.2 (lawful.slices cs.0 s cs.1))))
