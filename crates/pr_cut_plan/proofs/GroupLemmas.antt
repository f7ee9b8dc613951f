-- Groups, one part of the units after the other.
use Rattle.std.proofs.Common.{◌≡◌, ◌<◌, ◌≤◌, ℕ, zero, suc, ◌+◌, ◌-◌, ◌==◌, ◌&&◌, ◌||◌, Bool, true, false, cond, List, [], ◌∷◌, ◌++◌, length, take, drop, map, filter, get_or, nat_le, refl, subst, sym, ap, ◌∙◌, arith, inl, inr, add-one, drop-cons, length-append, append_assoc}
use Rattle.std.specs.Bool.{if◌then◌else◌}
use Rattle.std.specs.List.{list_any, flat_map, range_with_len}
use Rattle.std.proofs.lemmas.Bool.{cases_Bool, cases_lt, eqb-true, eq-eqb, leb-true, le-leb, false≢true}
use Rattle.std.proofs.lemmas.List.{length-take, take_more, append-nil, get_or_append_left, get_or-append_right}
use Rattle.std.proofs.lemmas.List.Folds.{list_any-append}
use Rattle.std.proofs.lemmas.List.Elements.{Contains-push}
use Rattle.std.proofs.lemmas.Grind.{flat_map-append}
use Rattle.pr_net.specs.declared.cells.Cell.{Cell}
use Rattle.pr_net.proofs.Lists.{any_here, any_found}
use Rattle.pr_cut_units.specs.Parts.{each}
use Rattle.pr_cut_units.specs.Groups.{Holds, is_among, is_tied, tied_from, group_of, group_number, groups_at}
use Rattle.pr_cut_units.proofs.TiedLists.{hold_at, group_order}
use Rattle.pr_cut_units.proofs.TiedNets.{last_number}
use Rattle.pr_cut_plan.specs.Parts.{end_of, IsPart, AreParts, AreMarked, part_groups, parts_groups, parts_end}

-- ---- searches
pub any_next : {X : Type 0} (p : X → Bool) (xs : List X) (i : ℕ) (d : X) → i < length xs → list_any p (drop i xs) ≡ (p (get_or xs i d) || list_any p (drop (i + 1) xs))
any_next p xs i d l = ap (list_any p) (drop-cons xs i d l) ∙ ap (λ (k : ℕ). p (get_or xs i d) || list_any p (drop k xs)) (sym (add-one i))

not_same : (u v : ℕ) → (u ≡ v → ⊥) → (u == v) ≡ false
not_same u v n = by (u == v) refl
  where
    by : (b : Bool) → (u == v) ≡ b → (u == v) ≡ false
    by true q = absurd (n (eqb-true u v q))
    by false q = q

or_false : (b : Bool) → (b || false) ≡ b
or_false true = refl
or_false false = refl

among_push : (v u : ℕ) (xs : List ℕ) → is_among v (xs ++ u ∷ []) ≡ (is_among v xs || (u == v))
among_push v u xs = list_any-append (λ w. w == v) xs (u ∷ []) ∙ ap (λ (b : Bool). is_among v xs || b) (or_false (u == v))

among_other : (v u : ℕ) (xs : List ℕ) → (u ≡ v → ⊥) → is_among v (xs ++ u ∷ []) ≡ is_among v xs
among_other v u xs n = among_push v u xs ∙ ap (λ (b : Bool). is_among v xs || b) (not_same u v n) ∙ or_false (is_among v xs)

-- ---- who is tied, unit after unit
abbrev pub tied_upto : List (List Cell) → Holds → ℕ → List ℕ
tied_upto units holds u = tied_from holds [] 0 (take u units)

tied_append : (holds : Holds) (group : List ℕ) (a : ℕ) (xs ys : List (List Cell)) → tied_from holds group a (xs ++ ys) ≡ tied_from holds (tied_from holds group a xs) (a + length xs) ys
tied_append holds group a [] ys = let z : a ≡ a + 0 = omega arith in ap (λ (n : ℕ). tied_from holds group n ys) z
tied_append holds group a (ks ∷ xs) ys =
    let next = if is_tied holds group ks then group ++ a ∷ [] else group in
    let z : suc a + length xs ≡ a + suc (length xs) = omega arith in
    tied_append holds next (suc a) xs ys ∙ ap (λ (n : ℕ). tied_from holds (tied_from holds next (suc a) xs) n ys) z

pub tied_next : (units : List (List Cell)) (holds : Holds) (u : ℕ) (d : List Cell) → u < length units → tied_upto units holds (u + 1) ≡ (if is_tied holds (tied_upto units holds u) (get_or units u d) then tied_upto units holds u ++ u ∷ [] else tied_upto units holds u)
tied_next units holds u d l =
    let n : 0 + length (take u units) ≡ u = (let t = length-take u units in omega (arith, t, l)) in
    ap (tied_from holds [] 0) (take_more units u d l)
    ∙ tied_append holds [] 0 (take u units) (get_or units u d ∷ [])
    ∙ ap (λ (k : ℕ). if is_tied holds (tied_upto units holds u) (get_or units u d) then tied_upto units holds u ++ k ∷ [] else tied_upto units holds u) n

-- a unit is tied when it is come to, or never
among_later : (units : List (List Cell)) (holds : Holds) (v u m : ℕ) → v < u → u + m ≤ length units → is_among v (tied_upto units holds (u + m)) ≡ is_among v (tied_upto units holds u)
among_later units holds v u zero l w = let z : u + 0 ≡ u = omega arith in ap (λ (n : ℕ). is_among v (tied_upto units holds n)) z
among_later units holds v u (suc m) l w =
    let z : u + suc m ≡ (u + m) + 1 = omega arith in
    ap (λ (n : ℕ). is_among v (tied_upto units holds n)) z
    ∙ ap (is_among v) (tied_next units holds (u + m) [] (omega (arith, w)))
    ∙ by (is_tied holds (tied_upto units holds (u + m)) (get_or units (u + m) []))
    ∙ among_later units holds v u m l (omega (arith, w))
  where
    by : (b : Bool) → is_among v (if b then tied_upto units holds (u + m) ++ (u + m) ∷ [] else tied_upto units holds (u + m)) ≡ is_among v (tied_upto units holds (u + m))
    by true = among_other v (u + m) (tied_upto units holds (u + m)) (λ e. omega (arith, e, l))
    by false = refl

among_before : (units : List (List Cell)) (holds : Holds) (u v : ℕ) → u ≤ v → u ≤ length units → is_among v (tied_upto units holds u) ≡ false
among_before units holds zero v l w = refl
among_before units holds (suc u) v l w =
    let z : suc u ≡ u + 1 = omega arith in
    ap (λ (n : ℕ). is_among v (tied_upto units holds n)) z
    ∙ ap (is_among v) (tied_next units holds u [] (omega (arith, w)))
    ∙ by (is_tied holds (tied_upto units holds u) (get_or units u []))
    ∙ among_before units holds u v (omega (arith, l)) (omega (arith, w))
  where
    by : (b : Bool) → is_among v (if b then tied_upto units holds u ++ u ∷ [] else tied_upto units holds u) ≡ is_among v (tied_upto units holds u)
    by true = among_other v u (tied_upto units holds u) (λ e. omega (arith, e, l))
    by false = refl

among_here : (units : List (List Cell)) (holds : Holds) (u : ℕ) (d : List Cell) → u < length units → is_among u (tied_upto units holds (u + 1)) ≡ is_tied holds (tied_upto units holds u) (get_or units u d)
among_here units holds u d l = ap (is_among u) (tied_next units holds u d l) ∙ by (is_tied holds (tied_upto units holds u) (get_or units u d))
  where
    by : (b : Bool) → is_among u (if b then tied_upto units holds u ++ u ∷ [] else tied_upto units holds u) ≡ b
    by true = any_here (λ w. w == u) (tied_upto units holds u ++ u ∷ []) u (Contains-push (tied_upto units holds u) u) (eq-eqb u u refl)
    by false = among_before units holds u u (omega arith) (omega (arith, l))

-- ---- who is in the group
low_hold : (a n u : ℕ) → u < a → is_among u (each n (λ j. a + j)) ≡ false
low_hold a n u l = by (is_among u (each n (λ j. a + j))) refl
  where
    by : (b : Bool) → is_among u (each n (λ j. a + j)) ≡ b → is_among u (each n (λ j. a + j)) ≡ false
    by false q = q
    by true q = absurd (let f = any_found (λ v. v == u) (each n (λ j. a + j)) q in let h = (hold_at a n f.0 f.1).low in let e = eqb-true f.0 u f.2 in omega (arith, h, e, l))

group_split : (units : List (List Cell)) (holds : Holds) (u : ℕ) → u < holds.first → is_among u (group_of units holds) ≡ is_among u (tied_upto units holds holds.first)
group_split units holds u l =
    list_any-append (λ v. v == u) (tied_upto units holds holds.first) (each holds.count (λ j. holds.first + j))
    ∙ ap (λ (b : Bool). is_among u (tied_upto units holds holds.first) || b) (low_hold holds.first holds.count u l)
    ∙ or_false (is_among u (tied_upto units holds holds.first))

pub group_here : (units : List (List Cell)) (holds : Holds) (u : ℕ) (d : List Cell) → u < holds.first → holds.first ≤ length units → is_among u (group_of units holds) ≡ is_tied holds (tied_upto units holds u) (get_or units u d)
group_here units holds u d l w =
    let z : holds.first ≡ (u + 1) + (holds.first - (u + 1)) = omega (arith, l) in
    group_split units holds u l
    ∙ ap (λ (n : ℕ). is_among u (tied_upto units holds n)) z
    ∙ among_later units holds u (u + 1) (holds.first - (u + 1)) (omega arith) (omega (arith, w, l))
    ∙ among_here units holds u d (omega (arith, l, w))

pub group_early : (units : List (List Cell)) (from u : ℕ) (holds : Holds) → IsPart units from holds → u < from → is_among u (group_of units holds) ≡ false
group_early units from u holds p l =
    let low = p.ordered in
    let high = p.within in
    let z : holds.first ≡ from + (holds.first - from) = omega (arith, low) in
    group_split units holds u (omega (arith, l, low))
    ∙ ap (λ (n : ℕ). is_among u (tied_upto units holds n)) z
    ∙ among_later units holds u from (holds.first - from) l (omega (arith, low, high))
    ∙ ap (is_among u) p.untied

pub group_late : (units : List (List Cell)) (holds : Holds) (u : ℕ) → end_of holds ≤ u → is_among u (group_of units holds) ≡ false
group_late units holds u l = by (is_among u (group_of units holds)) refl
  where
    by : (b : Bool) → is_among u (group_of units holds) ≡ b → is_among u (group_of units holds) ≡ false
    by false q = q
    by true q = absurd (let f = any_found (λ v. v == u) (group_of units holds) q in let h = (group_order units holds).below f.0 f.1 in let e = eqb-true f.0 u f.2 in omega (arith, h, e, l))

hold_among : (a n u : ℕ) → a ≤ u → u < a + n → is_among u (each n (λ j. a + j)) ≡ true
hold_among a n u l h = there 0 n a (omega arith) (omega (arith, l)) (omega (arith, h))
  where
    -- the numbers from place k on
    there : (k m b : ℕ) → b ≡ a + k → b ≤ u → u < b + m → is_among u (map (λ j. a + j) (range_with_len k m)) ≡ true
    there k zero b e l h = absurd (omega (arith, l, h))
    there k (suc m) b e l h = elim (cases_Bool ((a + k) == u)) [
      | inl q ↦ ap (λ (t : Bool). t || is_among u (map (λ j. a + j) (range_with_len (k + 1) m))) q
      | inr q ↦ (let low : b + 1 ≤ u = elim (cases_lt b u) [ inl s ↦ omega (arith, s) | inr s ↦ absurd (let same : a + k ≡ u = omega (arith, s, l, e) in false≢true (sym q ∙ eq-eqb (a + k) u same)) ] in
          ap (λ (t : Bool). t || is_among u (map (λ j. a + j) (range_with_len (k + 1) m))) q ∙ there (k + 1) m (b + 1) (omega (arith, e)) low (omega (arith, h)))
    ]

pub group_held : (units : List (List Cell)) (holds : Holds) (u : ℕ) → holds.first ≤ u → u < end_of holds → is_among u (group_of units holds) ≡ true
group_held units holds u l h =
    list_any-append (λ v. v == u) (tied_upto units holds holds.first) (each holds.count (λ j. holds.first + j))
    ∙ ap (λ (b : Bool). is_among u (tied_upto units holds holds.first) || b) (hold_among holds.first holds.count u l h)
    ∙ or_true (is_among u (tied_upto units holds holds.first))
  where
    or_true : (b : Bool) → (b || true) ≡ true
    or_true true = refl
    or_true false = refl

pub number_is : (units : List (List Cell)) (holds : Holds) → 1 ≤ holds.count → group_number (group_of units holds) + 1 ≡ end_of holds
number_is units holds some = let t = last_number (tied_upto units holds holds.first) holds.count holds.first some in omega (arith, t, some)

-- ---- the groups of a part
groups_by : (gs : List (List ℕ)) (u : ℕ) (b : Bool) → list_any (is_among u) gs ≡ b → groups_at gs u ≡ (if b then filter (λ g. group_number g == u) gs else (u ∷ []) ∷ [])
groups_by gs u b q = ap (λ (t : Bool). if t then filter (λ g. group_number g == u) gs else (u ∷ []) ∷ []) q

one_by : (units : List (List Cell)) (holds : Holds) (u : ℕ) (b t : Bool) → is_among u (group_of units holds) ≡ b → (group_number (group_of units holds) == u) ≡ t → groups_at (group_of units holds ∷ []) u ≡ (if b then cond t (group_of units holds ∷ []) [] else (u ∷ []) ∷ [])
one_by units holds u b t q r = groups_by (group_of units holds ∷ []) u b (or_false (is_among u (group_of units holds)) ∙ q) ∙ ap (λ (k : Bool). if b then cond k (group_of units holds ∷ []) [] else (u ∷ []) ∷ []) r

pub groups_low : (units : List (List Cell)) (holds : Holds) (u : ℕ) (d : List Cell) (b : Bool) → u < holds.first → 1 ≤ holds.count → end_of holds ≤ length units → b ≡ is_tied holds (tied_upto units holds u) (get_or units u d) → groups_at (group_of units holds ∷ []) u ≡ (if b then [] else (u ∷ []) ∷ [])
groups_low units holds u d b l some w is =
    let n = number_is units holds some in
    one_by units holds u b false (group_here units holds u d l (omega (arith, w)) ∙ sym is) (not_same (group_number (group_of units holds)) u (λ e. omega (arith, e, n, l, some)))

groups_held : (units : List (List Cell)) (holds : Holds) (u m : ℕ) → 1 ≤ holds.count → holds.first ≤ u → u + suc m ≡ end_of holds → flat_map (groups_at (group_of units holds ∷ [])) (range_with_len u (suc m)) ≡ group_of units holds ∷ []
groups_held units holds u zero some l e =
    let n = number_is units holds some in
    let one = one_by units holds u true true (group_held units holds u l (omega (arith, e))) (eq-eqb (group_number (group_of units holds)) u (omega (arith, n, e))) in
    ap (λ (xs : List (List ℕ)). xs ++ []) one
groups_held units holds u (suc m) some l e =
    let n = number_is units holds some in
    let one = one_by units holds u true false (group_held units holds u l (omega (arith, e))) (not_same (group_number (group_of units holds)) u (λ s. omega (arith, s, n, e))) in
    ap (λ (xs : List (List ℕ)). xs ++ flat_map (groups_at (group_of units holds ∷ [])) (range_with_len (u + 1) (suc m))) one ∙ groups_held units holds (u + 1) m some (omega (arith, l)) (omega (arith, e))

pub range_join : (a m n : ℕ) → range_with_len a (m + n) ≡ range_with_len a m ++ range_with_len (a + m) n
range_join a zero n = let z : a ≡ a + 0 = omega arith in let y : 0 + n ≡ n = omega arith in ap (range_with_len a) y ∙ ap (λ (k : ℕ). range_with_len k n) z
range_join a (suc m) n =
    let z : (a + 1) + m ≡ a + suc m = omega arith in
    let y : suc m + n ≡ suc (m + n) = omega arith in
    ap (range_with_len a) y ∙ ap (λ (xs : List ℕ). a ∷ xs) (range_join (a + 1) m n ∙ ap (λ (k : ℕ). range_with_len (a + 1) m ++ range_with_len k n) z)

pub flat_join : (f : ℕ → List (List ℕ)) (a m n k : ℕ) → k ≡ m + n → flat_map f (range_with_len a k) ≡ flat_map f (range_with_len a m) ++ flat_map f (range_with_len (a + m) n)
flat_join f a m n k e = ap (λ (j : ℕ). flat_map f (range_with_len a j)) e ∙ ap (flat_map f) (range_join a m n) ∙ flat_map-append f (range_with_len a m) (range_with_len (a + m) n)

-- one unit more before the hold units
pub low_next : (units : List (List Cell)) (holds : Holds) (from u : ℕ) (d : List Cell) (b : Bool) (olds now next : List (List ℕ)) → from ≤ u → u < holds.first → IsPart units from holds → b ≡ is_tied holds (tied_upto units holds u) (get_or units u d) → now ≡ olds ++ flat_map (groups_at (group_of units holds ∷ [])) (range_with_len from (u - from)) → next ≡ now ++ (if b then [] else (u ∷ []) ∷ [])
    → next ≡ olds ++ flat_map (groups_at (group_of units holds ∷ [])) (range_with_len from (u + 1 - from))
low_next units holds from u d b olds now next low high p is was step =
    let f = groups_at (group_of units holds ∷ []) in
    let k : u + 1 - from ≡ (u - from) + 1 = omega (arith, low) in
    let z : from + (u - from) ≡ u = omega (arith, low) in
    let one : flat_map f (range_with_len (from + (u - from)) 1) ≡ (if b then [] else (u ∷ []) ∷ []) = ap (λ (n : ℕ). f n ++ []) z ∙ append-nil (f u) ∙ groups_low units holds u d b high p.some p.within is in
    step
    ∙ ap (λ (xs : List (List ℕ)). xs ++ (if b then [] else (u ∷ []) ∷ [])) was
    ∙ append_assoc olds (flat_map f (range_with_len from (u - from))) (if b then [] else (u ∷ []) ∷ [])
    ∙ ap (λ (xs : List (List ℕ)). olds ++ (flat_map f (range_with_len from (u - from)) ++ xs)) (sym one)
    ∙ ap (λ (xs : List (List ℕ)). olds ++ xs) (sym (flat_join f from (u - from) 1 (u + 1 - from) k))

-- the group itself, after them
pub part_whole : (units : List (List Cell)) (holds : Holds) (from : ℕ) (olds now next : List (List ℕ)) (group : List ℕ) → IsPart units from holds → now ≡ olds ++ flat_map (groups_at (group_of units holds ∷ [])) (range_with_len from (holds.first - from)) → group ≡ group_of units holds → next ≡ now ++ group ∷ []
    → next ≡ olds ++ part_groups units from holds
part_whole units holds from olds now next group p was is step =
    let f = groups_at (group_of units holds ∷ []) in
    let low = p.ordered in
    let some = p.some in
    let k : end_of holds - from ≡ (holds.first - from) + suc (holds.count - 1) = omega (arith, low, some) in
    let z : from + (holds.first - from) ≡ holds.first = omega (arith, low) in
    let held : flat_map f (range_with_len (from + (holds.first - from)) (suc (holds.count - 1))) ≡ group_of units holds ∷ [] = ap (λ (n : ℕ). flat_map f (range_with_len n (suc (holds.count - 1)))) z ∙ groups_held units holds holds.first (holds.count - 1) some (omega arith) (omega (arith, some)) in
    step
    ∙ ap (λ (xs : List (List ℕ)). xs ++ group ∷ []) was
    ∙ append_assoc olds (flat_map f (range_with_len from (holds.first - from))) (group ∷ [])
    ∙ ap (λ (g : List ℕ). olds ++ (flat_map f (range_with_len from (holds.first - from)) ++ g ∷ [])) is
    ∙ ap (λ (xs : List (List ℕ)). olds ++ (flat_map f (range_with_len from (holds.first - from)) ++ xs)) (sym held)
    ∙ ap (λ (xs : List (List ℕ)). olds ++ xs) (sym (flat_join f from (holds.first - from) (suc (holds.count - 1)) (end_of holds - from) k))

-- ---- marks
and_false : (b : Bool) → (b && false) ≡ false
and_false true = refl
and_false false = refl

pub marks_none : (from : ℕ) → AreMarked from [] []
marks_none from = record { is = λ u. sym (and_false (nat_le from u)) }

beyond : (xs : List Bool) (i : ℕ) → length xs ≤ i → get_or xs i false ≡ false
beyond [] i l = refl
beyond (x ∷ xs) zero l = absurd (omega (arith, l))
beyond (x ∷ xs) (suc i) l = beyond xs i (omega (arith, l))

pub marks_more : (from u : ℕ) (marks : List Bool) (group : List ℕ) (b : Bool) → length marks ≡ u - from → from ≤ u → AreMarked from marks group → AreMarked from (marks ++ b ∷ []) (if b then group ++ u ∷ [] else group)
marks_more from u marks group b long low m = record {
  is = λ v. elim (cases_lt v u) [
    | inl l ↦ other v b (λ e. omega (arith, e, l)) ∙ m.is v ∙ sym (kept v l (nat_le from v) refl)
    | inr l ↦ elim (cases_lt u v) [
      | inl h ↦ other v b (λ e. omega (arith, e, h)) ∙ m.is v ∙ ap (λ (t : Bool). nat_le from v && t) (beyond marks (v - from) (omega (arith, long, h, low)) ∙ sym (beyond (marks ++ b ∷ []) (v - from) (omega (arith, long, h, low, length-append marks (b ∷ [])))))
      | inr h ↦ (let same : u ≡ v = omega (arith, l, h) in subst (λ (w : ℕ). is_among w (if b then group ++ u ∷ [] else group) ≡ (nat_le from w && get_or (marks ++ b ∷ []) (w - from) false)) same (here b))
    ]
  ];
}
  where
    other : (v : ℕ) (b : Bool) → (u ≡ v → ⊥) → is_among v (if b then group ++ u ∷ [] else group) ≡ is_among v group
    other v true n = among_other v u group n
    other v false n = refl

    kept : (v : ℕ) → v < u → (t : Bool) → nat_le from v ≡ t → (nat_le from v && get_or (marks ++ b ∷ []) (v - from) false) ≡ (nat_le from v && get_or marks (v - from) false)
    kept v l false q = ap (λ (t : Bool). t && get_or (marks ++ b ∷ []) (v - from) false) q ∙ sym (ap (λ (t : Bool). t && get_or marks (v - from) false) q)
    kept v l true q = ap (λ (t : Bool). nat_le from v && t) (let s = leb-true from v q in get_or_append_left marks (b ∷ []) false (v - from) (omega (arith, long, l, s)))

    last : (b : Bool) → get_or (marks ++ b ∷ []) (u - from) false ≡ b
    last b = get_or-append_right marks (b ∷ []) (u - from) (u - from) false long (omega arith) ∙ (let z : (u - from) - (u - from) ≡ 0 = omega arith in ap (λ (k : ℕ). get_or (b ∷ []) k false) z)

    here : (b : Bool) → is_among u (if b then group ++ u ∷ [] else group) ≡ (nat_le from u && get_or (marks ++ b ∷ []) (u - from) false)
    here true = any_here (λ w. w == u) (group ++ u ∷ []) u (Contains-push group u) (eq-eqb u u refl) ∙ sym (ap (λ (t : Bool). t && get_or (marks ++ true ∷ []) (u - from) false) (le-leb from u low) ∙ last true)
    here false = m.is u ∙ ap (λ (t : Bool). nat_le from u && t) (beyond marks (u - from) (omega (arith, long)) ∙ sym (last false))

-- ---- all parts
early : (units : List (List Cell)) (from u : ℕ) (all : List Holds) → AreParts units from all → u < from → list_any (is_among u) (map (group_of units) all) ≡ false
early units from u [] p l = refl
early units from u (holds ∷ all) p l =
    let low = p.0.ordered in
    ap (λ (b : Bool). b || list_any (is_among u) (map (group_of units) all)) (group_early units from u holds p.0 l) ∙ early units (end_of holds) u all p.1 (omega (arith, l, low))

no_early : (units : List (List Cell)) (from u : ℕ) (all : List Holds) → AreParts units from all → u < from → filter (λ g. group_number g == u) (map (group_of units) all) ≡ []
no_early units from u [] p l = refl
no_early units from u (holds ∷ all) p l =
    let low = p.0.ordered in
    let n = number_is units holds p.0.some in
    let some = p.0.some in
    ap (λ (b : Bool). cond b (group_of units holds ∷ filter (λ g. group_number g == u) (map (group_of units) all)) (filter (λ g. group_number g == u) (map (group_of units) all))) (not_same (group_number (group_of units holds)) u (λ e. omega (arith, e, n, l, low, some)))
    ∙ no_early units (end_of holds) u all p.1 (omega (arith, l, low))

first_groups : (units : List (List Cell)) (holds : Holds) (all : List Holds) (u : ℕ) → AreParts units (end_of holds) all → u < end_of holds → groups_at (map (group_of units) (holds ∷ all)) u ≡ groups_at (group_of units holds ∷ []) u
first_groups units holds all u p l =
    ap (λ (b : Bool). if is_among u (group_of units holds) || b then filter (λ g. group_number g == u) (map (group_of units) (holds ∷ all)) else (u ∷ []) ∷ []) (early units (end_of holds) u all p l)
    ∙ ap (λ (xs : List (List ℕ)). if is_among u (group_of units holds) || false then cond (group_number (group_of units holds) == u) (group_of units holds ∷ xs) xs else (u ∷ []) ∷ []) (no_early units (end_of holds) u all p l)

later_groups : (units : List (List Cell)) (holds : Holds) (all : List Holds) (u : ℕ) → 1 ≤ holds.count → end_of holds ≤ u → groups_at (map (group_of units) (holds ∷ all)) u ≡ groups_at (map (group_of units) all) u
later_groups units holds all u some l =
    let n = number_is units holds some in
    let gs = map (group_of units) all in
    ap (λ (b : Bool). if b || list_any (is_among u) gs then cond (group_number (group_of units holds) == u) (group_of units holds ∷ filter (λ g. group_number g == u) gs) (filter (λ g. group_number g == u) gs) else (u ∷ []) ∷ []) (group_late units holds u l)
    ∙ ap (λ (b : Bool). if list_any (is_among u) gs then cond b (group_of units holds ∷ filter (λ g. group_number g == u) gs) (filter (λ g. group_number g == u) gs) else (u ∷ []) ∷ []) (not_same (group_number (group_of units holds)) u (λ e. omega (arith, e, n, l)))

flat_same : (f g : ℕ → List (List ℕ)) (a n : ℕ) → ((u : ℕ) → a ≤ u → u < a + n → f u ≡ g u) → flat_map f (range_with_len a n) ≡ flat_map g (range_with_len a n)
flat_same f g a zero h = refl
flat_same f g a (suc n) h =
    ap (λ (xs : List (List ℕ)). xs ++ flat_map f (range_with_len (a + 1) n)) (h a (omega arith) (omega arith))
    ∙ ap (λ (xs : List (List ℕ)). g a ++ xs) (flat_same f g (a + 1) n (λ u l m. h u (omega (arith, l)) (omega (arith, m))))

abbrev pub singles : ℕ → ℕ → List (List ℕ)
singles a n = flat_map (groups_at []) (range_with_len a n)

pub parts_whole : (units : List (List Cell)) (from : ℕ) (all : List Holds) → AreParts units from all → from ≤ length units → flat_map (groups_at (map (group_of units) all)) (range_with_len from (length units - from)) ≡ parts_groups units from all ++ singles (parts_end from all) (length units - parts_end from all)
parts_whole units from [] p l = refl
parts_whole units from (holds ∷ all) p l =
    let end = end_of holds in
    let low = p.0.ordered in
    let high = p.0.within in
    let gs = map (group_of units) (holds ∷ all) in
    let k : length units - from ≡ (end - from) + (length units - end) = omega (arith, low, high) in
    let z : from + (end - from) ≡ end = omega (arith, low) in
    flat_join (groups_at gs) from (end - from) (length units - end) (length units - from) k
    ∙ ap (λ (xs : List (List ℕ)). xs ++ flat_map (groups_at gs) (range_with_len (from + (end - from)) (length units - end))) (flat_same (groups_at gs) (groups_at (group_of units holds ∷ [])) from (end - from) (λ u a b. first_groups units holds all u p.1 (omega (arith, b, z))))
    ∙ ap (λ (n : ℕ). part_groups units from holds ++ flat_map (groups_at gs) (range_with_len n (length units - end))) z
    ∙ ap (λ (xs : List (List ℕ)). part_groups units from holds ++ xs) (flat_same (groups_at gs) (groups_at (map (group_of units) all)) end (length units - end) (λ u a b. later_groups units holds all u p.0.some a))
    ∙ ap (λ (xs : List (List ℕ)). part_groups units from holds ++ xs) (parts_whole units end all p.1 high)
    ∙ sym (append_assoc (part_groups units from holds) (parts_groups units end all) (singles (parts_end end all) (length units - parts_end end all)))

-- one part more
pub parts_next : (units : List (List Cell)) (from i : ℕ) (all : List Holds) (d : Holds) → i < length all → AreParts units from (drop i all) → IsPart units from (get_or all i d) × AreParts units (end_of (get_or all i d)) (drop (i + 1) all)
parts_next units from i all d l p =
    let q = subst (λ (xs : List Holds). AreParts units from xs) (drop-cons all i d l) p in
    let z : suc i ≡ i + 1 = omega arith in
    (q.0, subst (λ (n : ℕ). AreParts units (end_of (get_or all i d)) (drop n all)) z q.1)

pub parts_step : (units : List (List Cell)) (from i : ℕ) (all : List Holds) (d : Holds) (olds now next whole : List (List ℕ)) → i < length all → next ≡ now ++ part_groups units from (get_or all i d) → now ++ parts_groups units from (drop i all) ≡ whole → next ++ parts_groups units (end_of (get_or all i d)) (drop (i + 1) all) ≡ whole
parts_step units from i all d olds now next whole l step was =
    let z : i + 1 ≡ suc i = omega arith in
    let rest = parts_groups units (end_of (get_or all i d)) (drop (suc i) all) in
    ap (λ (n : ℕ). next ++ parts_groups units (end_of (get_or all i d)) (drop n all)) z
    ∙ ap (λ (xs : List (List ℕ)). xs ++ rest) step
    ∙ append_assoc now (part_groups units from (get_or all i d)) rest
    ∙ ap (λ (xs : List Holds). now ++ parts_groups units from xs) (sym (drop-cons all i d l))
    ∙ was

pub end_next : (from i : ℕ) (all : List Holds) (d : Holds) → i < length all → parts_end (end_of (get_or all i d)) (drop (i + 1) all) ≡ parts_end from (drop i all)
end_next from i all d l =
    let z : i + 1 ≡ suc i = omega arith in
    ap (λ (n : ℕ). parts_end (end_of (get_or all i d)) (drop n all)) z ∙ ap (parts_end from) (sym (drop-cons all i d l))

pub end_within : (units : List (List Cell)) (from : ℕ) (all : List Holds) → AreParts units from all → from ≤ length units → parts_end from all ≤ length units
end_within units from [] p l = l
end_within units from (holds ∷ all) p l = end_within units (end_of holds) all p.1 p.0.within

-- one single unit more
pub singles_next : (a u : ℕ) (olds now next : List (List ℕ)) → a ≤ u → now ≡ olds ++ singles a (u - a) → next ≡ now ++ (u ∷ []) ∷ [] → next ≡ olds ++ singles a (u + 1 - a)
singles_next a u olds now next l was step =
    let k : u + 1 - a ≡ (u - a) + 1 = omega (arith, l) in
    let z : a + (u - a) ≡ u = omega (arith, l) in
    step
    ∙ ap (λ (xs : List (List ℕ)). xs ++ (u ∷ []) ∷ []) was
    ∙ append_assoc olds (singles a (u - a)) ((u ∷ []) ∷ [])
    ∙ ap (λ (n : ℕ). olds ++ (singles a (u - a) ++ (n ∷ []) ∷ [])) (sym z)
    ∙ ap (λ (xs : List (List ℕ)). olds ++ xs) (sym (flat_join (groups_at []) a (u - a) 1 (u + 1 - a) k))
