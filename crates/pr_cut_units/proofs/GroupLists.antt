-- The groups of recurrences: who is in them, and where they stand among all groups.
use Rattle.std.proofs.Common.{◌≡◌, ◌<◌, ◌≤◌, ℕ, zero, suc, ◌+◌, ◌-◌, ◌==◌, Bool, true, false, nat_le, nat_lt, List, [], ◌∷◌, ◌++◌, length, take, map, filter, get_or, refl, subst, sym, ap, ◌∙◌, arith, inl, inr}
use Rattle.std.specs.Bool.{if◌then◌else◌}
use Rattle.std.specs.List.{list_any, flat_map, range_with_len, Contains}
use Rattle.std.proofs.lemmas.Bool.{and_from, le-leb, lt-ltb, eq-eqb}
use Rattle.std.proofs.lemmas.List.FromFn.{length-map-range_with_len, get_or-map-range_with_len}
use Rattle.std.proofs.lemmas.List.Elements.{Contains-append_left, Contains-append_right, Contains-push, Contains-get_or}
use Rattle.std.proofs.lemmas.List.{get_or_default}
use Rattle.pr_net.specs.declared.cells.Wire.{Wire}
use Rattle.pr_net.specs.declared.cells.Cell.{Cell}
use Rattle.pr_net.specs.Shape.{NetShape, units_of}
use Rattle.pr_net.specs.Nets.{group_of as unit_group}
use Rattle.pr_net.proofs.Lists.{any_here, at_head, in_tail, in_none, head_or_tail, in_range}
use Rattle.pr_cut_units.proofs.NetLawful.{IsGrouped}
use Rattle.pr_cut_units.specs.Parts.{each}
use Rattle.pr_cut_units.specs.Groups.{Holds, cell_wires, is_among, ties, is_tied, tied_from, group_of, group_number, groups_at, groups_of}

-- a wire that reads a state of a hold unit ties its unit
pub tied_by : (holds : Holds) (group : List ℕ) (ks : List Cell) (k : Cell) (v j : ℕ) → Contains ks k → Contains (cell_wires k) (Wire.State v j) → holds.first ≤ v → v < holds.first + holds.count → is_tied holds group ks ≡ true
tied_by holds group ks k v j ck cw low high =
    any_here (λ (k : Cell). list_any (ties holds group) (cell_wires k)) ks k ck
    (any_here (ties holds group) (cell_wires k) (Wire.State v j) cw (and_from (nat_le holds.first v) (nat_lt v (holds.first + holds.count)) (le-leb holds.first v low) (lt-ltb v (holds.first + holds.count) high)))

-- who is in the group so far stays in it
tied_keeps : (holds : Holds) (group : List ℕ) (u : ℕ) (us : List (List Cell)) (x : ℕ) → Contains group x → Contains (tied_from holds group u us) x
tied_keeps holds group u [] x c = c
tied_keeps holds group u (ks ∷ us) x c = tied_keeps holds (if is_tied holds group ks then group ++ u ∷ [] else group) (suc u) us x (go (is_tied holds group ks))
  where
    go : (b : Bool) → Contains (if b then group ++ u ∷ [] else group) x
    go true = Contains-append_left group (u ∷ []) x c
    go false = c

-- a unit that reads a state of the hold units is taken
tied_takes : (holds : Holds) (group : List ℕ) (u : ℕ) (us : List (List Cell)) (i : ℕ) (k : Cell) (v j : ℕ) → i < length us → Contains (get_or us i []) k → Contains (cell_wires k) (Wire.State v j) → holds.first ≤ v → v < holds.first + holds.count → Contains (tied_from holds group u us) (u + i)
tied_takes holds group u [] i k v j l ck cw low high = absurd (omega (arith, l))
tied_takes holds group u (ks ∷ us) zero k v j l ck cw low high =
    let t : is_tied holds group ks ≡ true = tied_by holds group ks k v j ck cw low high in
    let z : u ≡ u + 0 = omega arith in
    tied_keeps holds (if is_tied holds group ks then group ++ u ∷ [] else group) (suc u) us (u + 0) (subst (λ (b : Bool). Contains (if b then group ++ u ∷ [] else group) (u + 0)) (sym t) (subst (λ (n : ℕ). Contains (group ++ u ∷ []) n) z (Contains-push group u)))
tied_takes holds group u (ks ∷ us) (suc i) k v j l ck cw low high =
    let z : suc u + i ≡ u + suc i = omega arith in
    subst (λ (n : ℕ). Contains (tied_from holds (if is_tied holds group ks then group ++ u ∷ [] else group) (suc u) us) n) z (tied_takes holds (if is_tied holds group ks then group ++ u ∷ [] else group) (suc u) us i k v j (omega (arith, l)) ck cw low high)

-- a hold unit is in the group
pub hold_member : (units : List (List Cell)) (holds : Holds) (n : ℕ) → n < holds.count → Contains (group_of units holds) (holds.first + n)
hold_member units holds n l =
    let f = λ (j : ℕ). holds.first + j in
    Contains-append_right (tied_from holds [] 0 (take holds.first units)) (each holds.count f) (holds.first + n)
    (n, (let long = length-map-range_with_len f 0 holds.count in omega (arith, l, long)), get_or-map-range_with_len f 0 holds.count n n _ l (omega arith))

-- a unit before the hold units that reads one of their states is in the group
pub reader_member : (units : List (List Cell)) (holds : Holds) (u : ℕ) (k : Cell) (v j : ℕ) → u < length (take holds.first units) → Contains (get_or (take holds.first units) u []) k → Contains (cell_wires k) (Wire.State v j) → holds.first ≤ v → v < holds.first + holds.count → Contains (group_of units holds) u
reader_member units holds u k v j l ck cw low high =
    let z : 0 + u ≡ u = omega arith in
    Contains-append_left (tied_from holds [] 0 (take holds.first units)) (each holds.count (λ j. holds.first + j)) u
    (subst (λ (n : ℕ). Contains (tied_from holds [] 0 (take holds.first units)) n) z (tied_takes holds [] 0 (take holds.first units) u k v j l ck cw low high))

-- ---- all groups
pub in_flat : (f : ℕ → List (List ℕ)) (us : List ℕ) (u : ℕ) (x : List ℕ) → Contains us u → Contains (f u) x → Contains (flat_map f us) x
in_flat f [] u x c h = absurd (in_none u c)
in_flat f (v ∷ us) u x c h = elim (head_or_tail v u us c) [
  | inl e ↦ Contains-append_left (f v) (flat_map f us) x (subst (λ (n : ℕ). Contains (f n) x) (sym e) h)
  | inr t ↦ Contains-append_right (f v) (flat_map f us) x (in_flat f us u x t h)
]

pub in_filter : (p : List ℕ → Bool) (gs : List (List ℕ)) (x : List ℕ) → Contains gs x → p x ≡ true → Contains (filter p gs) x
in_filter p [] x c h = absurd (in_none x c)
in_filter p (g ∷ gs) x c h = elim (head_or_tail g x gs c) [
  | inl e ↦ (let t : p g ≡ true = ap p e ∙ h in rw t (subst (λ (y : List ℕ). Contains (y ∷ filter p gs) x) (sym e) (at_head x (filter p gs))))
  | inr t ↦ go (p g) refl (in_filter p gs x t h)
]
  where
    go : (b : Bool) → p g ≡ b → Contains (filter p gs) x → Contains (filter p (g ∷ gs)) x
    go true q d = rw q (in_tail g x (filter p gs) d)
    go false q d = rw q d

pub number_member : (group : List ℕ) → 0 < length group → Contains group (group_number group)
number_member group l = Contains-get_or group (length group - 1) 0 (omega (arith, l))

-- the group of a recurrence stands among all
pub group_stands : (units : List (List Cell)) (all : List Holds) (holds : Holds) → Contains all holds → 0 < length (group_of units holds) → group_number (group_of units holds) < length units → Contains (groups_of units all) (group_of units holds)
group_stands units all holds c some l =
    let gs = map (group_of units) all in
    let group = group_of units holds in
    let u = group_number group in
    let stands : Contains gs group = in_map units all holds c in
    let among : list_any (is_among u) gs ≡ true = any_here (is_among u) gs group stands (any_here (λ v. v == u) group u (number_member group some) (eq-eqb u u refl)) in
    in_flat (groups_at gs) (range_with_len 0 (length units)) u group (in_range (length units) u l)
    (subst (λ (b : Bool). Contains (if b then filter (λ g. group_number g == u) gs else (u ∷ []) ∷ []) group) (sym among) (in_filter (λ g. group_number g == u) gs group stands (eq-eqb u u refl)))
  where
    in_map : (units : List (List Cell)) (all : List Holds) (holds : Holds) → Contains all holds → Contains (map (group_of units) all) (group_of units holds)
    in_map units [] holds c = absurd (in_none holds c)
    in_map units (h ∷ all) holds c = elim (head_or_tail h holds all c) [
      | inl e ↦ subst (λ (x : Holds). Contains (group_of units x ∷ map (group_of units) all) (group_of units holds)) (sym e) (at_head (group_of units holds) (map (group_of units) all))
      | inr t ↦ in_tail (group_of units h) (group_of units holds) (map (group_of units) all) (in_map units all holds t)
    ]

-- two units of one group of a net whose groups are in order
pub same_group : (net : NetShape) (group : List ℕ) (u v : ℕ) → IsGrouped net → Contains net.groups group → Contains group u → Contains group v → (v < length net.units) × (unit_group net v ≡ unit_group net u)
same_group net group u v g (i, l, e) cu cv =
    let is : units_of net i ≡ group = get_or_default net.groups i [] group l ∙ e in
    let mu = g.members i u l (subst (λ (x : List ℕ). Contains x u) (sym is) cu) in
    let mv = g.members i v l (subst (λ (x : List ℕ). Contains x v) (sym is) cv) in
    (mv.0, mv.1 ∙ sym mu.1)
