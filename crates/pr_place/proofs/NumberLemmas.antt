-- Numbers of cells: each cell has its own, below the number of all.
use Rattle.std.proofs.Common.{◌≡◌, ℕ, zero, suc, ◌+◌, ◌-◌, ◌^◌, min, ◌<◌, ◌≤◌, List, [], ◌∷◌, ◌++◌, length, get_or, map, refl, sym, ap, ap₂, ◌∙◌, subst, arith, inl, inr}
use Rattle.std.proofs.Math.Nat.{min-eq_left, min-eq_right}
use Rattle.std.specs.List.{Contains, All, range_with_len}
use Rattle.std.proofs.lemmas.Bool.{cases_lt, cases_order}
use Rattle.std.proofs.lemmas.List.{map-append, get_or_default, get_or_past}
use Rattle.std.proofs.lemmas.List.Elements.{All-append}
use Rattle.std.proofs.lemmas.List.Sums.{sum_by-cons}
use Rattle.std.proofs.lemmas.List.FromFn.{length-range_with_len, get_or-range_with_len}
use Rattle.pr_net.specs.declared.cells.Cell.{Cell}
use Rattle.pr_net.specs.Shape.{NetShape, cells_of, units_of}
use Rattle.pr_net.specs.Nets.{group_of, IsNet}
use Rattle.pr_place.specs.Greedy.{Spot, unit_spots, spots_of}
use Rattle.pr_place.specs.Numbering.{firsts_from, cells_in, unit_numbers, group_numbers, IsNumbered}
use Rattle.pr_place.specs.Tracking.{IsCellOf, spot_number}
use Rattle.pr_place.proofs.Spots.{Position, position, spots_in}

-- where there is a mark for each cell that was counted, all were counted
pub few_cells : (us vs : List (List Cell)) (count : ℕ) → us ≡ vs → count ≡ min (cells_in us) (2 ^ 64 - 1) → count < 2 ^ 63 → (cells_in vs < 2 ^ 63) × (count ≡ cells_in vs)
few_cells us vs count same e few = elim (cases_lt (cells_in us) (2 ^ 64)) [
  | inl low ↦ (let all : count ≡ cells_in vs = e ∙ min-eq_left (omega (arith, low)) ∙ ap cells_in same in (omega (arith, all, few), all))
  | inr high ↦ absurd (let most : count ≡ 2 ^ 64 - 1 = e ∙ min-eq_right (omega (arith, high)) in omega (arith, most, few))
]

-- how many cells stand before a unit
abbrev before : List (List Cell) → ℕ → ℕ
before us zero = 0
before [] (suc u) = 0
before (ks ∷ us) (suc u) = length ks + before us u

length-firsts_from : (n : ℕ) (us : List (List Cell)) → length (firsts_from n us) ≡ length us
length-firsts_from n [] = refl
length-firsts_from n (ks ∷ us) = ap suc (length-firsts_from (n + length ks) us)

firsts_at : (n : ℕ) (us : List (List Cell)) (u : ℕ) → u < length us → get_or (firsts_from n us) u 0 ≡ n + before us u
firsts_at n [] u l = absurd (omega (arith, l))
firsts_at n (ks ∷ us) zero l =
    let a : get_or (firsts_from n (ks ∷ us)) 0 0 ≡ n = refl in
    let b : before (ks ∷ us) 0 ≡ 0 = refl in
    omega (arith, a, b)
firsts_at n (ks ∷ us) (suc u) l = let ih = firsts_at (n + length ks) us u (omega (arith, l)) in omega (arith, ih)

before_more : (us : List (List Cell)) (u v : ℕ) → u < v → v < length us → before us u + length (get_or us u []) ≤ before us v
before_more [] u v l lv = absurd (omega (arith, lv))
before_more (ks ∷ us) u zero l lv = absurd (omega (arith, l))
before_more (ks ∷ us) zero (suc v) l lv =
    let a : get_or (ks ∷ us) 0 [] ≡ ks = refl in
    let b : before (ks ∷ us) 0 ≡ 0 = refl in
    let c : before (ks ∷ us) (suc v) ≡ length ks + before us v = refl in
    let e : length (get_or (ks ∷ us) 0 []) ≡ length ks = ap length a in
    omega (arith, b, c, e)
before_more (ks ∷ us) (suc u) (suc v) l lv = let ih = before_more us u v (omega (arith, l)) (omega (arith, lv)) in omega (arith, ih)

before_all : (us : List (List Cell)) (u : ℕ) → u < length us → before us u + length (get_or us u []) ≤ cells_in us
before_all [] u l = absurd (omega (arith, l))
before_all (ks ∷ us) zero l =
    let a : length (get_or (ks ∷ us) 0 []) ≡ length ks = refl in
    let b : before (ks ∷ us) 0 ≡ 0 = refl in
    let c : cells_in (ks ∷ us) ≡ length ks + cells_in us = sum_by-cons (λ (k : List Cell). length k) ks us in
    omega (arith, a, b, c)
before_all (ks ∷ us) (suc u) l =
    let ih = before_all us u (omega (arith, l)) in
    let c : cells_in (ks ∷ us) ≡ length ks + cells_in us = sum_by-cons (λ (k : List Cell). length k) ks us in
    omega (arith, ih, c)

pub first_long : (units : List (List Cell)) (first : List ℕ) (cells : ℕ) → IsNumbered units first cells → length first ≡ length units
first_long units first cells h = ap length h.first_is ∙ length-firsts_from 0 units

first_at : (units : List (List Cell)) (first : List ℕ) (cells u : ℕ) → IsNumbered units first cells → u < length units → get_or first u 0 ≡ before units u
first_at units first cells u h l =
    let e : get_or first u 0 ≡ get_or (firsts_from 0 units) u 0 = ap (λ (xs : List ℕ). get_or xs u 0) h.first_is in
    let f = firsts_at 0 units u l in
    omega (arith, e, f)

pub first_room : (units : List (List Cell)) (first : List ℕ) (cells u : ℕ) → IsNumbered units first cells → u < length units → get_or first u 0 + length (get_or units u []) ≤ cells
first_room units first cells u h l =
    let e = first_at units first cells u h l in
    let t = before_all units u l in
    let c = h.cells_is in
    omega (arith, e, t, c)

pub first_rooms : (units : List (List Cell)) (first : List ℕ) (cells u : ℕ) → IsNumbered units first cells → get_or first u 0 + length (get_or units u []) ≤ cells
first_rooms units first cells u h = elim (cases_lt u (length units)) [
  | inl l ↦ first_room units first cells u h l
  | inr past ↦
      (let long = first_long units first cells h in
      let a : get_or first u 0 ≡ 0 = get_or_past first u 0 (omega (arith, long, past)) in
      let b : length (get_or units u []) ≡ 0 = ap length (get_or_past units u [] past) in
      omega (arith, a, b))
]

pub number_below : (units : List (List Cell)) (first : List ℕ) (cells u i : ℕ) → IsNumbered units first cells → u < length units → i < length (get_or units u []) → get_or first u 0 + i < cells
number_below units first cells u i h l li = let r = first_room units first cells u h l in omega (arith, r, li)

pub number_apart : (units : List (List Cell)) (first : List ℕ) (cells u i v j : ℕ) → IsNumbered units first cells → u < length units → i < length (get_or units u []) → v < length units → j < length (get_or units v [])
    → get_or first u 0 + i ≡ get_or first v 0 + j → (u ≡ v) × (i ≡ j)
number_apart units first cells u i v j h lu li lv lj e =
    let a = first_at units first cells u h lu in
    let b = first_at units first cells v h lv in
    elim (cases_order u v) [
      | inl same ↦ (same, (let q : get_or first u 0 ≡ get_or first v 0 = ap (λ (k : ℕ). get_or first k 0) same in omega (arith, q, e)))
      | inr (inl less) ↦ absurd (let m = before_more units u v less lv in omega (arith, a, b, m, e, li))
      | inr (inr more) ↦ absurd (let m = before_more units v u more lu in omega (arith, a, b, m, e, lj))
    ]

-- ---- the members of a group
pub member : (N : ℕ) (net : NetShape) → IsNet N net → (g k : ℕ) → g < length net.groups → k < length (units_of net g) → (get_or (units_of net g) k 0 < length net.units) × (group_of net (get_or (units_of net g) k 0) ≡ g)
member N net n g k lg lk = n.members g (get_or (units_of net g) k 0) lg (k, lk, get_or_default (units_of net g) k (get_or (units_of net g) k 0) 0 lk)

pub cell_at_spot : (N : ℕ) (net : NetShape) → IsNet N net → (g : ℕ) (x : Spot) → g < length net.groups → Contains (spots_of net g) x → IsCellOf net g x.unit x.place
cell_at_spot N net n g x lg c =
    let p : Position net (units_of net g) c.0 x = subst (Position net (units_of net g) c.0) c.2 (position net (units_of net g) c.0 x c.1) in
    let m = member N net n g p.index lg p.below in
    record {
      group = lg;
      is = ap (group_of net) p.unit ∙ m.1;
      unit = subst (λ (u : ℕ). u < length net.units) (sym p.unit) m.0;
      place = p.place;
    }

-- the numbers of a group's cells are those of its spots
unit_numbers_are : (first : List ℕ) (u i : ℕ) (ks : List Cell) → map (spot_number first) (unit_spots u i ks) ≡ range_with_len (get_or first u 0 + i) (length ks)
unit_numbers_are first u i [] = refl
unit_numbers_are first u i (k ∷ ks) =
    let e : get_or first u 0 + suc i ≡ get_or first u 0 + i + 1 = omega arith in
    ap (λ (xs : List ℕ). (get_or first u 0 + i) ∷ xs) (unit_numbers_are first u (suc i) ks ∙ ap (λ (a : ℕ). range_with_len a (length ks)) e)

pub numbers_are : (net : NetShape) (first : List ℕ) (us : List ℕ) → group_numbers net.units first us ≡ map (spot_number first) (spots_in net us)
numbers_are net first [] = refl
numbers_are net first (u ∷ us) =
    let z : get_or first u 0 ≡ get_or first u 0 + 0 = omega arith in
    ap₂ (λ (xs ys : List ℕ). xs ++ ys) (ap (λ (a : ℕ). range_with_len a (length (cells_of net u))) z ∙ sym (unit_numbers_are first u 0 (cells_of net u))) (numbers_are net first us)
    ∙ sym (map-append (spot_number first) (unit_spots u 0 (cells_of net u)) (spots_in net us))

-- each is below the number of all cells
range_below : (a n b : ℕ) → a + n ≤ b → All (λ x. x < b) (range_with_len a n)
range_below a n b h = λ k d l.
    let small : k < n = subst (λ (m : ℕ). k < m) (length-range_with_len a n) l in
    let e = get_or-range_with_len a n k d small in
    omega (arith, small, e, h)

pub numbers_below : (units : List (List Cell)) (first : List ℕ) (cells : ℕ) (us : List ℕ) → IsNumbered units first cells → ((k : ℕ) → k < length us → get_or us k 0 < length units) → All (λ x. x < cells) (group_numbers units first us)
numbers_below units first cells [] h there = λ k d l. absurd (omega (arith, l))
numbers_below units first cells (u ∷ us) h there = All-append (λ (x : ℕ). x < cells) (unit_numbers units first u) (group_numbers units first us)
    (range_below (get_or first u 0) (length (get_or units u [])) cells (first_room units first cells u h (there 0 (omega arith))))
    (numbers_below units first cells us h (λ k l. there (suc k) (omega (arith, l))))
