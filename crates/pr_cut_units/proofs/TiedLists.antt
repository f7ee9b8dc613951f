-- The group of a recurrence is in order, not empty, and among the units before the end of its hold units; an input is tied to nothing.
use Rattle.std.proofs.Common.{◌≡◌, ◌<◌, ◌≤◌, ◌⊎◌, ℕ, suc, ◌+◌, ◌-◌, Bool, true, false, List, [], ◌∷◌, ◌++◌, length, take, get_or, refl, subst, sym, ap, ◌∙◌, arith, inl, inr, length-append}
use Rattle.std.specs.Bool.{if◌then◌else◌}
use Rattle.std.specs.List.{list_any, Contains}
use Rattle.std.proofs.lemmas.Bool.{cases_lt, false≢true}
use Rattle.std.proofs.lemmas.List.{length-take, get_or-take, get_or-append_right, get_or_append_left}
use Rattle.std.proofs.lemmas.List.FromFn.{length-map-range_with_len, get_or-map-range_with_len}
use Rattle.std.proofs.lemmas.List.Elements.{Contains-append_cases, Contains-get_or}
use Rattle.pr_net.specs.declared.cells.Wire.{Wire}
use Rattle.pr_net.specs.declared.cells.Cell.{Cell}
use Rattle.pr_net.proofs.Lists.{only_head, in_none}
use Rattle.pr_cut_units.specs.Parts.{each}
use Rattle.pr_cut_units.specs.Groups.{Holds, cell_wires, ties, is_tied, tied_from, group_of}
use Rattle.pr_cut_units.proofs.NetLawful.{AllInput, IsInputCell, IsInputWire}

-- numbers in order, all below a bound
pub record InOrder (bound : ℕ) (xs : List ℕ) : Type 0 where
  pub ascending : (i j : ℕ) → i < j → j < length xs → get_or xs i 0 < get_or xs j 0
  pub below : (u : ℕ) → Contains xs u → u < bound

order_none : (bound : ℕ) → InOrder bound []
order_none bound = record { ascending = λ i j l r. absurd (omega (arith, r)); below = λ u c. absurd (in_none u c) }

order_more : (a b : ℕ) (xs : List ℕ) → a ≤ b → InOrder a xs → InOrder b xs
order_more a b xs l o = record { ascending = o.ascending; below = λ u c. (let k = o.below u c in omega (arith, k, l)) }

-- numbers from a bound on, after those below it
order_append : (a b : ℕ) (xs ys : List ℕ) → a ≤ b → InOrder a xs → InOrder b ys → ((u : ℕ) → Contains ys u → a ≤ u) → InOrder b (xs ++ ys)
order_append a b xs ys ab o p above =
    let whole = length-append xs ys in
    let right : (k : ℕ) → length xs ≤ k → get_or (xs ++ ys) k 0 ≡ get_or ys (k - length xs) 0 = λ k l. get_or-append_right xs ys (length xs) k 0 refl l in
    let left : (k : ℕ) → k < length xs → get_or (xs ++ ys) k 0 ≡ get_or xs k 0 = λ k l. get_or_append_left xs ys 0 k l in
    record {
      ascending = λ i j l r. elim (cases_lt j (length xs)) [
        | inl s ↦ (let e = left i (omega (arith, l, s)) in let f = left j s in let q = o.ascending i j l s in omega (arith, e, f, q))
        | inr s ↦ (let f = right j s in
            elim (cases_lt i (length xs)) [
              | inl t ↦ (let e = left i t in
                  let low = o.below (get_or xs i 0) (Contains-get_or xs i 0 t) in
                  let high = above (get_or ys (j - length xs) 0) (Contains-get_or ys (j - length xs) 0 (omega (arith, r, whole, s))) in
                  omega (arith, e, f, low, high))
              | inr t ↦ (let e = right i t in
                  let q = p.ascending (i - length xs) (j - length xs) (omega (arith, l, t, s)) (omega (arith, r, whole, s)) in
                  omega (arith, e, f, q))
            ])
      ];
      below = λ u c. elim (Contains-append_cases xs ys u c) [
        | inl t ↦ (let k = o.below u t in omega (arith, k, ab))
        | inr t ↦ p.below u t
      ];
    }

order_one : (u : ℕ) → InOrder (suc u) (u ∷ [])
order_one u = record { ascending = λ i j l r. absurd (omega (arith, l, r)); below = λ v c. (let e = only_head u v c in omega (arith, e)) }

order_push : (u : ℕ) (xs : List ℕ) → InOrder u xs → InOrder (suc u) (xs ++ u ∷ [])
order_push u xs o = order_append u (suc u) xs (u ∷ []) (omega arith) o (order_one u) (λ v c. (let e = only_head u v c in omega (arith, e)))

-- what is tied is taken in order
tied_order : (holds : Holds) (group : List ℕ) (u : ℕ) (us : List (List Cell)) → InOrder u group → InOrder (u + length us) (tied_from holds group u us)
tied_order holds group u [] o = order_more u (u + 0) group (omega arith) o
tied_order holds group u (ks ∷ us) o =
    let z : suc u + length us ≡ u + suc (length us) = omega arith in
    let next = if is_tied holds group ks then group ++ u ∷ [] else group in
    subst (λ (n : ℕ). InOrder n (tied_from holds next (suc u) us)) z (tied_order holds next (suc u) us (go (is_tied holds group ks)))
  where
    go : (b : Bool) → InOrder (suc u) (if b then group ++ u ∷ [] else group)
    go true = order_push u group o
    go false = order_more u (suc u) group (omega arith) o

-- hold units in order
pub record IsHold (a n u : ℕ) : Type 0 where
  pub low : a ≤ u
  pub high : u < a + n

pub hold_at : (a n u : ℕ) → Contains (each n (λ j. a + j)) u → IsHold a n u
hold_at a n u (k, l, e) =
    let f = λ (j : ℕ). a + j in
    let long = length-map-range_with_len f 0 n in
    let small : k < n = omega (arith, l, long) in
    let is : a + k ≡ u = sym (get_or-map-range_with_len f 0 n k k u small (omega arith)) ∙ e in
    record { low = omega (arith, is); high = omega (arith, is, small) }

hold_order : (a n : ℕ) → InOrder (a + n) (each n (λ j. a + j))
hold_order a n =
    let f = λ (j : ℕ). a + j in
    let long = length-map-range_with_len f 0 n in
    record {
      ascending = λ i j l r. (let lj : j < n = omega (arith, r, long) in
          let e = get_or-map-range_with_len f 0 n i i 0 (omega (arith, l, lj)) (omega arith) in
          let g = get_or-map-range_with_len f 0 n j j 0 lj (omega arith) in
          omega (arith, e, g, l));
      below = λ u c. (hold_at a n u c).high;
    }

-- the group of a recurrence is in order, up to the end of its hold units
pub group_order : (units : List (List Cell)) (holds : Holds) → InOrder (holds.first + holds.count) (group_of units holds)
group_order units holds =
    let tied = tied_from holds [] 0 (take holds.first units) in
    let n = length-take holds.first units in
    let o = tied_order holds [] 0 (take holds.first units) (order_none 0) in
    order_append holds.first (holds.first + holds.count) tied (each holds.count (λ j. holds.first + j)) (omega arith)
    (order_more (0 + length (take holds.first units)) holds.first tied (omega (arith, n)) o)
    (hold_order holds.first holds.count)
    (λ u c. (hold_at holds.first holds.count u c).low)

pub group_some : (units : List (List Cell)) (holds : Holds) → 1 ≤ holds.count → 0 < length (group_of units holds)
group_some units holds some =
    let tied = tied_from holds [] 0 (take holds.first units) in
    let f = λ (j : ℕ). holds.first + j in
    let long = length-map-range_with_len f 0 holds.count in
    let whole = length-append tied (each holds.count f) in
    omega (arith, long, whole, some)

-- ---- who is taken
pub record IsTaken (holds : Holds) (a : ℕ) (us : List (List Cell)) (u : ℕ) : Type 0 where
  pub place : ℕ
  pub short : place < length us
  pub is : u ≡ a + place
  pub group : List ℕ
  pub tied : is_tied holds group (get_or us place []) ≡ true

pub who_tied : (holds : Holds) (group : List ℕ) (a : ℕ) (us : List (List Cell)) (u : ℕ) → Contains (tied_from holds group a us) u → Contains group u ⊎ IsTaken holds a us u
who_tied holds group a [] u c = inl c
who_tied holds group a (ks ∷ us) u c = go (is_tied holds group ks) refl (who_tied holds (if is_tied holds group ks then group ++ a ∷ [] else group) (suc a) us u c)
  where
    later : IsTaken holds (suc a) us u → IsTaken holds a (ks ∷ us) u
    later t = record { place = suc t.place; short = (let s = t.short in omega (arith, s)); is = (let e = t.is in omega (arith, e)); group = t.group; tied = t.tied }

    go : (b : Bool) → is_tied holds group ks ≡ b → Contains (if is_tied holds group ks then group ++ a ∷ [] else group) u ⊎ IsTaken holds (suc a) us u → Contains group u ⊎ IsTaken holds a (ks ∷ us) u
    go b q (inr t) = inr (later t)
    go true q (inl d) = elim (Contains-append_cases group (a ∷ []) u (subst (λ (b : Bool). Contains (if b then group ++ a ∷ [] else group) u) q d)) [
      | inl h ↦ inl h
      | inr h ↦ (let e = only_head a u h in inr (record { place = 0; short = omega arith; is = omega (arith, e); group = group; tied = q }))
    ]
    go false q (inl d) = inl (subst (λ (b : Bool). Contains (if b then group ++ a ∷ [] else group) u) q d)

-- a cell of an input ties nothing
wire_untied : (total : ℕ) (holds : Holds) (group : List ℕ) (w : Wire) → IsInputWire total w → ties holds group w ≡ false
wire_untied total holds group (Wire.Const k) h = refl
wire_untied total holds group (Wire.Of v j) h = absurd h
wire_untied total holds group (Wire.State v j) h = absurd h
wire_untied total holds group (Wire.Bus i) h = refl

cell_untied : (total : ℕ) (holds : Holds) (group : List ℕ) (k : Cell) → IsInputCell total k → list_any (ties holds group) (cell_wires k) ≡ false
cell_untied total holds group k h = rw (wire_untied total holds group k.a h.a, wire_untied total holds group k.hi h.hi, wire_untied total holds group k.lo h.lo, h.c) refl

pub input_untied : (total : ℕ) (holds : Holds) (group : List ℕ) (ks : List Cell) → AllInput total ks → is_tied holds group ks ≡ false
input_untied total holds group [] h = refl
input_untied total holds group (k ∷ ks) h = rw (cell_untied total holds group k h.0, input_untied total holds group ks h.1) refl

-- a unit before the hold units whose cells are those of an input is not in the group
pub input_outside : (total : ℕ) (units : List (List Cell)) (holds : Holds) (u : ℕ) → u < holds.first → AllInput total (get_or units u []) → Contains (group_of units holds) u → ⊥
input_outside total units holds u l h c =
    elim (Contains-append_cases (tied_from holds [] 0 (take holds.first units)) (each holds.count (λ j. holds.first + j)) u c) [
      | inl t ↦ elim (who_tied holds [] 0 (take holds.first units) u t) [
        | inl n ↦ in_none u n
        | inr s ↦ (let e : s.place ≡ u = (let q = s.is in omega (arith, q)) in
            let same : get_or (take holds.first units) s.place [] ≡ get_or units u [] = ap (λ (n : ℕ). get_or (take holds.first units) n []) e ∙ get_or-take holds.first units u [] l in
            false≢true (sym (input_untied total holds s.group (get_or units u []) h) ∙ sym (ap (is_tied holds s.group) same) ∙ s.tied))
      ]
      | inr t ↦ (let k = (hold_at holds.first holds.count u t).low in absurd (omega (arith, k, l)))
    ]
