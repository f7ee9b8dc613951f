-- Every net has a placement of the greedy rule, or a group that fits in no stripe: stripe after stripe is filled until all groups
-- are placed or a stripe receives none, and no more stripes than there are groups can each receive one.
use Rattle.std.proofs.Common.{◌≡◌, ◌⊎◌, ◌+◌, ◌<◌, ℕ, zero, suc, not, List, [], ◌∷◌, ◌++◌, length, refl, sym, ap, ◌∙◌, subst, inl, inr, arith, length-append, append-nil, append_assoc}
use Rattle.std.specs.List.{fold}
use Rattle.std.proofs.lemmas.Bool.{cases_lt, not-false}
use Rattle.pr_net.specs.Shape.{NetShape}
use Rattle.pr_net.proofs.Lists.{sought, all_from}
use Rattle.pr_place.specs.Greedy.{Seat, spots_of, groups_in, is_placed, seats_from, turn, placed_after, homes_in, number_of_group, IsFilled, IsGreedy, IsNoFit}
use Rattle.pr_place.proofs.Stages.{so_far}
use Rattle.pr_place.proofs.Stripes.{turn_cases}
use Rattle.pr_compile_verdicts.specs.Verdicts.{SomeOf}

-- ---- a stripe changes nothing, or adds seats
turns_append : (N P : ℕ) (net : NetShape) (s : ℕ) (gs : List ℕ) (placed : List Seat) → (more : List Seat) × (fold (turn N P net s) placed gs ≡ placed ++ more)
turns_append N P net s [] placed = ([], sym (append-nil placed))
turns_append N P net s (g ∷ gs) placed =
    let rest = turns_append N P net s gs (turn N P net s placed g) in
    let behind : (l : List Seat) → turn N P net s placed g ≡ l → fold (turn N P net s) placed (g ∷ gs) ≡ l ++ rest.0 = λ l is. rest.1 ∙ ap (λ (front : List Seat). front ++ rest.0) is in
    elim (turn_cases N P net s placed g) [
      | inr same ↦ (rest.0, behind placed same)
      | inl (col, p) ↦
          (let seats = seats_from P net placed s g (spots_of net g) col in
          (seats ++ rest.0, behind (placed ++ seats) p.is ∙ append_assoc placed seats rest.0))
    ]

longer_by : (placed more after : List Seat) → after ≡ placed ++ more → (after ≡ placed) ⊎ (length placed < length after)
longer_by placed [] after is = inl (is ∙ append-nil placed)
longer_by placed (t ∷ more) after is =
    let e : length after ≡ length (placed ++ t ∷ more) = ap length is in
    let l = length-append placed (t ∷ more) in
    inr (omega (arith, e, l))

stripe_longer : (N P : ℕ) (net : NetShape) (s : ℕ) → (placed_after N P net (suc s) ≡ placed_after N P net s) ⊎ (length (placed_after N P net s) < length (placed_after N P net (suc s)))
unfolding placed_after
stripe_longer N P net s =
    let added = turns_append N P net s (groups_in net) (placed_after N P net s) in
    longer_by (placed_after N P net s) added.0 (placed_after N P net (suc s)) added.1

-- ---- stripe after stripe
abbrev Grow : ℕ → ℕ → NetShape → ℕ → Type 0
Grow N P net s = (k : ℕ) → k < s → length (placed_after N P net k) < length (placed_after N P net (suc k))

grow_more : (N P : ℕ) (net : NetShape) (s : ℕ) → Grow N P net s → length (placed_after N P net s) < length (placed_after N P net (suc s)) → Grow N P net (suc s)
grow_more N P net s each more k low = elim (cases_lt k s) [
  | inl less ↦ each k less
  | inr last ↦ (let same : s ≡ k = omega (arith, low, last) in subst (λ (n : ℕ). length (placed_after N P net n) < length (placed_after N P net (suc n))) same more)
]

filled_or_stuck : (N P : ℕ) (net : NetShape) (left s : ℕ) → length net.groups < left + s → Grow N P net s → SomeOf (IsFilled N P net) (IsNoFit N P net)
filled_or_stuck N P net zero s enough each = absurd (let few = so_far N P net s each in omega (arith, few, enough))
filled_or_stuck N P net (suc left) s enough each = elim (sought (λ g. not (is_placed (placed_after N P net s) g)) (groups_in net)) [
  | inr none ↦ inl (s, record { all = all_from (is_placed (placed_after N P net s)) (groups_in net) (λ g c. not-false (is_placed (placed_after N P net s) g) (none.none g c)); each = each })
  | inl found ↦ elim (stripe_longer N P net s) [
    | inl same ↦ inr (number_of_group net found.0, record { stuck = s; none = same; group = found.0; least = found.1.is; is = refl })
    | inr more ↦ filled_or_stuck N P net left (suc s) (omega (arith, enough)) (grow_more N P net s each more)
  ]
]

pub some_placement : (N P : ℕ) (net : NetShape) → SomeOf (IsGreedy N P net) (IsNoFit N P net)
some_placement N P net = elim (filled_or_stuck N P net (suc (length net.groups)) 0 (omega arith) (λ k low. absurd (omega (arith, low)))) [
  | inl filled ↦ inl (record { stages = filled.0; homes = homes_in net (placed_after N P net filled.0) }, record { filled = filled.1; homes = refl })
  | inr stuck ↦ inr stuck
]
