-- The group of each cell, noted group by group; who reads whom by it.
use Rattle.std.proofs.Common.{◌≡◌, ℕ, suc, ◌+◌, ◌<◌, List, [], ◌∷◌, length, get_or, set, map, refl, sym, ap, ◌∙◌, subst, arith, inl, inr, get_or-set_same, get_or-set_other, length-set}
use Rattle.std.specs.List.{Contains, All}
use Rattle.std.proofs.lemmas.Bool.{cases_eq}
use Rattle.std.proofs.lemmas.List.{get_or-map, length-map, get_or_default}
use Rattle.pr_net.specs.Shape.{NetShape, units_of}
use Rattle.pr_net.specs.Nets.{group_of, IsNet}
use Rattle.pr_net.proofs.Lists.{at_head, in_tail, head_or_tail, in_none}
use Rattle.pr_place.specs.Greedy.{spots_of}
use Rattle.pr_place.specs.Numbering.{group_numbers, owned_by, IsNumbered}
use Rattle.pr_place.specs.Tracking.{IsCellOf, spot_number}
use Rattle.pr_place.proofs.Spots.{spot, no_spot}
use Rattle.pr_place.proofs.Soundness.{spot_in}
use Rattle.pr_place.proofs.NumberLemmas.{number_apart, numbers_are, cell_at_spot}

pub length-owned_by : (g : ℕ) (owner cells : List ℕ) → length (owned_by g owner cells) ≡ length owner
length-owned_by g owner [] = refl
length-owned_by g owner (y ∷ ys) = length-owned_by g (set owner y g) ys ∙ length-set owner y g

owned_stays : (g : ℕ) (owner cells : List ℕ) (x : ℕ) → All (λ y. y < length owner) cells → get_or owner x 0 ≡ g → get_or (owned_by g owner cells) x 0 ≡ g
owned_stays g owner [] x there e = e
owned_stays g owner (y ∷ ys) x there e =
    let long : length (set owner y g) ≡ length owner = length-set owner y g in
    owned_stays g (set owner y g) ys x (λ k d l. (let t = there (suc k) d (omega (arith, l)) in omega (arith, long, t))) (elim (cases_eq x y) [
      | inl same ↦ ap (λ (k : ℕ). get_or (set owner y g) k 0) same ∙ get_or-set_same owner y g 0 (there 0 0 (omega arith))
      | inr ne ↦ get_or-set_other owner y x g 0 ne ∙ e
    ])

owned_here : (g : ℕ) (owner cells : List ℕ) (x : ℕ) → All (λ y. y < length owner) cells → Contains cells x → get_or (owned_by g owner cells) x 0 ≡ g
owned_here g owner [] x there c = absurd (in_none x c)
owned_here g owner (y ∷ ys) x there c =
    let long : length (set owner y g) ≡ length owner = length-set owner y g in
    let rest : All (λ z. z < length (set owner y g)) ys = λ k d l. (let t = there (suc k) d (omega (arith, l)) in omega (arith, long, t)) in
    elim (head_or_tail y x ys c) [
      | inl e ↦ owned_stays g (set owner y g) ys x rest (ap (λ (k : ℕ). get_or (set owner y g) k 0) (sym e) ∙ get_or-set_same owner y g 0 (there 0 0 (omega arith)))
      | inr t ↦ owned_here g (set owner y g) ys x rest t
    ]

owned_other : (g : ℕ) (owner cells : List ℕ) (x : ℕ) → (Contains cells x → ⊥) → get_or (owned_by g owner cells) x 0 ≡ get_or owner x 0
owned_other g owner [] x out = refl
owned_other g owner (y ∷ ys) x out =
    owned_other g (set owner y g) ys x (λ c. out (in_tail y x ys c))
    ∙ get_or-set_other owner y x g 0 (λ e. out (subst (λ (k : ℕ). Contains (y ∷ ys) k) (sym e) (at_head y ys)))

-- the numbers of a group's cells
number_in : (N : ℕ) (net : NetShape) (first : List ℕ) (g u i : ℕ) → IsNet N net → IsCellOf net g u i → Contains (group_numbers net.units first (units_of net g)) (get_or first u 0 + i)
number_in N net first g u i n c =
    let s = subst (λ (k : ℕ). Contains (spots_of net k) (spot u i)) c.is (spot_in N net n u i (record { unit = c.unit; place = c.place })) in
    let there : Contains (map (spot_number first) (spots_of net g)) (spot_number first (spot u i)) =
    (s.0, subst (λ (k : ℕ). s.0 < k) (sym (length-map (spots_of net g) (spot_number first))) s.1, get_or-map (spot_number first) (spots_of net g) s.0 (spot u i) (spot_number first (spot u i)) s.1 ∙ ap (spot_number first) s.2) in
    subst (λ (xs : List ℕ). Contains xs (get_or first u 0 + i)) (sym (numbers_are net first (units_of net g))) there

number_of_group : (N : ℕ) (net : NetShape) (first : List ℕ) (cells g h u i : ℕ) → IsNet N net → IsNumbered net.units first cells → g < length net.groups → IsCellOf net h u i → Contains (group_numbers net.units first (units_of net g)) (get_or first u 0 + i) → h ≡ g
number_of_group N net first cells g h u i n num lg c there =
    let xs = spots_of net g in
    let s = subst (λ (ys : List ℕ). Contains ys (get_or first u 0 + i)) (numbers_are net first (units_of net g)) there in
    let l : s.0 < length xs = subst (λ (k : ℕ). s.0 < k) (length-map xs (spot_number first)) s.1 in
    let x = get_or xs s.0 no_spot in
    let e : get_or first x.unit 0 + x.place ≡ get_or first u 0 + i = sym (get_or-map (spot_number first) xs s.0 no_spot (get_or first u 0 + i) l) ∙ s.2 in
    let cell = cell_at_spot N net n g x lg (s.0, l, get_or_default xs s.0 x no_spot l) in
    let same = number_apart net.units first cells x.unit x.place u i num cell.unit cell.place c.unit c.place e in
    sym c.is ∙ ap (group_of net) (sym same.0) ∙ cell.is

-- one more group is noted
pub owners_next : (N : ℕ) (net : NetShape) (first : List ℕ) (cells g : ℕ) (owner : List ℕ) → IsNet N net → IsNumbered net.units first cells → g < length net.groups → All (λ x. x < length owner) (group_numbers net.units first (units_of net g))
    → ((h u i : ℕ) → IsCellOf net h u i → h < g → get_or owner (get_or first u 0 + i) 0 ≡ h)
    → (h u i : ℕ) → IsCellOf net h u i → h < g + 1 → get_or (owned_by g owner (group_numbers net.units first (units_of net g))) (get_or first u 0 + i) 0 ≡ h
owners_next N net first cells g owner n num lg below before h u i c l =
    let xs = group_numbers net.units first (units_of net g) in
    let x = get_or first u 0 + i in
    elim (cases_eq h g) [
      | inl same ↦ owned_here g owner xs x below (subst (λ (k : ℕ). Contains (group_numbers net.units first (units_of net k)) x) same (number_in N net first h u i n c)) ∙ sym same
      | inr ne ↦ owned_other g owner xs x (λ there. ne (number_of_group N net first cells g h u i n num lg c there)) ∙ before h u i c (omega (arith, l, ne))
    ]
