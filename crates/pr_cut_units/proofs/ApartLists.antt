-- Lists of which no two have an element in common, and the groups that they and the numbers left make.
use Rattle.std.proofs.Common.{◌≡◌, ◌<◌, ◌≤◌, ◌⊎◌, ℕ, zero, suc, ◌+◌, ◌==◌, Bool, true, false, List, [], ◌∷◌, ◌++◌, length, filter, get_or, refl, subst, sym, ap, ◌∙◌, arith, inl, inr, length-append}
use Rattle.std.specs.Prelude.{slice_index}
use Rattle.std.specs.Bool.{if◌then◌else◌}
use Rattle.std.specs.List.{list_any, flat_map, range_with_len, position_or_len, Contains}
use Rattle.std.proofs.lemmas.Bool.{cases_Bool, eq-eqb, eqb-true, false≢true}
use Rattle.std.proofs.lemmas.List.{get_or_default}
use Rattle.std.proofs.lemmas.List.Sums.{position_or_len_is}
use Rattle.std.proofs.lemmas.List.Elements.{Contains-append_cases, Contains-get_or}
use Rattle.pr_net.proofs.Lists.{any_here, any_found, at_head, in_tail, in_none, only_head, head_or_tail, in_range, range_within}
use Rattle.pr_cut_units.specs.Groups.{is_among, group_number, groups_at}
use Rattle.pr_cut_units.proofs.GroupLists.{in_flat, in_filter, number_member}

-- no two of these lists, the one before the other, have an element in common
abbrev pub AreApart : List (List ℕ) → Type 0
AreApart [] = Unit {0}
AreApart (g ∷ gs) = ((h : List ℕ) (u : ℕ) → Contains gs h → Contains g u → Contains h u → ⊥) × AreApart gs

-- two that have an element in common are one
shared : (gs : List (List ℕ)) (g h : List ℕ) (u : ℕ) → AreApart gs → Contains gs g → Contains gs h → Contains g u → Contains h u → g ≡ h
shared [] g h u a cg ch mg mh = absurd (in_none g cg)
shared (x ∷ gs) g h u a cg ch mg mh = elim (head_or_tail x g gs cg) [
  | inl e ↦ elim (head_or_tail x h gs ch) [
    | inl f ↦ sym e ∙ f
    | inr t ↦ absurd (a.0 h u t (subst (λ (y : List ℕ). Contains y u) (sym e) mg) mh)
  ]
  | inr s ↦ elim (head_or_tail x h gs ch) [
    | inl f ↦ absurd (a.0 g u s (subst (λ (y : List ℕ). Contains y u) (sym f) mh) mg)
    | inr t ↦ shared gs g h u a.1 s t mg mh
  ]
]

-- by places
apart_at : (gs : List (List ℕ)) (i k u : ℕ) → AreApart gs → i < k → k < length gs → Contains (get_or gs i []) u → Contains (get_or gs k []) u → ⊥
apart_at [] i k u a l r m n = omega (arith, r)
apart_at (g ∷ gs) zero zero u a l r m n = omega (arith, l)
apart_at (g ∷ gs) zero (suc k) u a l r m n = a.0 (get_or gs k []) u (Contains-get_or gs k [] (omega (arith, r))) m n
apart_at (g ∷ gs) (suc i) zero u a l r m n = omega (arith, l)
apart_at (g ∷ gs) (suc i) (suc k) u a l r m n = apart_at gs i k u a.1 (omega (arith, l)) (omega (arith, r)) m n

apart_append : (xs ys : List (List ℕ)) → AreApart xs → AreApart ys → ((g h : List ℕ) (u : ℕ) → Contains xs g → Contains ys h → Contains g u → Contains h u → ⊥) → AreApart (xs ++ ys)
apart_append [] ys a b c = b
apart_append (x ∷ xs) ys a b c = (
  λ h u ch mg mh. elim (Contains-append_cases xs ys h ch) [
    | inl t ↦ a.0 h u t mg mh
    | inr t ↦ c x h u (at_head x xs) t mg mh
  ],
  apart_append xs ys a.1 b (λ g h u cg ch mg mh. c g h u (in_tail x g xs cg) ch mg mh),
)

-- an element of a filtered list
pub filtered : (p : List ℕ → Bool) (gs : List (List ℕ)) (x : List ℕ) → Contains (filter p gs) x → Contains gs x × (p x ≡ true)
filtered p [] x c = absurd (in_none x c)
filtered p (g ∷ gs) x c = go (p g) refl (λ d. filtered p gs x d) c
  where
    go : (b : Bool) → p g ≡ b → (Contains (filter p gs) x → Contains gs x × (p x ≡ true)) → Contains (filter p (g ∷ gs)) x → Contains (g ∷ gs) x × (p x ≡ true)
    go true q ih d =
        let there : Contains (g ∷ filter p gs) x = subst (λ (b : Bool). Contains (if b then g ∷ filter p gs else filter p gs) x) q d in
        elim (head_or_tail g x (filter p gs) there) [
          | inl e ↦ (subst (λ (y : List ℕ). Contains (g ∷ gs) y) e (at_head g gs), ap p (sym e) ∙ q)
          | inr t ↦ (let r = ih t in (in_tail g x gs r.0, r.1))
        ]
    go false q ih d =
        let r = ih (subst (λ (b : Bool). Contains (if b then g ∷ filter p gs else filter p gs) x) q d) in
        (in_tail g x gs r.0, r.1)

apart_filter : (p : List ℕ → Bool) (gs : List (List ℕ)) → AreApart gs → AreApart (filter p gs)
apart_filter p [] a = tt
apart_filter p (g ∷ gs) a = go (p g) (apart_filter p gs a.1)
  where
    go : (b : Bool) → AreApart (filter p gs) → AreApart (if b then g ∷ filter p gs else filter p gs)
    go true d = (λ h u ch mg mh. a.0 h u (filtered p gs h ch).0 mg mh, d)
    go false d = d

-- lists apart that all have one element are one at most
one_most : (gs : List (List ℕ)) (u : ℕ) → AreApart gs → ((g : List ℕ) → Contains gs g → Contains g u) → length gs ≤ 1
one_most [] u a c = omega arith
one_most (x ∷ []) u a c = omega arith
one_most (x ∷ y ∷ gs) u a c = absurd (a.0 y u (at_head y gs) (c x (at_head x (y ∷ gs))) (c y (in_tail x y (y ∷ gs) (at_head y gs))))

-- ---- the groups at a number
-- a group at u is one of the lists, with number u, or u by itself, which is in no list
record ByNumber (gs : List (List ℕ)) (u : ℕ) (x : List ℕ) : Type 0 where
  pub stands : Contains gs x
  pub number : group_number x ≡ u

record ByItself (gs : List (List ℕ)) (u : ℕ) (x : List ℕ) : Type 0 where
  pub is : x ≡ u ∷ []
  pub none : list_any (is_among u) gs ≡ false

at_cases : (gs : List (List ℕ)) (u : ℕ) (x : List ℕ) → Contains (groups_at gs u) x → ByNumber gs u x ⊎ ByItself gs u x
at_cases gs u x c = go (list_any (is_among u) gs) refl c
  where
    go : (b : Bool) → list_any (is_among u) gs ≡ b → Contains (if b then filter (λ g. group_number g == u) gs else (u ∷ []) ∷ []) x → ByNumber gs u x ⊎ ByItself gs u x
    go true q d = (let r = filtered (λ g. group_number g == u) gs x d in inl (record { stands = r.0; number = eqb-true (group_number x) u r.1 }))
    go false q d = inr (record { is = sym (only_head (u ∷ []) x d); none = q })

pub is_member : (gs : List (List ℕ)) (g : List ℕ) (u : ℕ) → Contains gs g → Contains g u → list_any (is_among u) gs ≡ true
is_member gs g u c m = any_here (is_among u) gs g c (any_here (λ v. v == u) g u m (eq-eqb u u refl))

-- groups at two numbers have nothing in common
at_apart : (gs : List (List ℕ)) (u v w : ℕ) (x y : List ℕ) → AreApart gs → (u ≡ v → ⊥) → Contains (groups_at gs u) x → Contains (groups_at gs v) y → Contains x w → Contains y w → ⊥
at_apart gs u v w x y a other cx cy mx my = elim (at_cases gs u x cx) [
  | inl s ↦ elim (at_cases gs v y cy) [
    | inl t ↦ other (sym s.number ∙ ap group_number (shared gs x y w a s.stands t.stands mx my) ∙ t.number)
    | inr t ↦ (let e : v ≡ w = only_head v w (subst (λ (z : List ℕ). Contains z w) t.is my) in
        false≢true (sym t.none ∙ is_member gs x v s.stands (subst (λ (n : ℕ). Contains x n) (sym e) mx)))
  ]
  | inr s ↦ (let e : u ≡ w = only_head u w (subst (λ (z : List ℕ). Contains z w) s.is mx) in
      elim (at_cases gs v y cy) [
        | inl t ↦ false≢true (sym s.none ∙ is_member gs y u t.stands (subst (λ (n : ℕ). Contains y n) (sym e) my))
        | inr t ↦ (let f : v ≡ w = only_head v w (subst (λ (z : List ℕ). Contains z w) t.is my) in other (e ∙ sym f))
      ])
]

at_self : (gs : List (List ℕ)) (u : ℕ) → AreApart gs → AreApart (groups_at gs u)
at_self gs u a = go (list_any (is_among u) gs)
  where
    go : (b : Bool) → AreApart (if b then filter (λ g. group_number g == u) gs else (u ∷ []) ∷ [])
    go true = apart_filter (λ g. group_number g == u) gs a
    go false = (λ h w ch mg mh. absurd (in_none h ch), tt)

at_most : (gs : List (List ℕ)) (u : ℕ) → AreApart gs → ((g : List ℕ) → Contains gs g → 0 < length g) → length (groups_at gs u) ≤ 1
at_most gs u a some = go (list_any (is_among u) gs)
  where
    go : (b : Bool) → length (if b then filter (λ g. group_number g == u) gs else (u ∷ []) ∷ []) ≤ 1
    go true = one_most (filter (λ g. group_number g == u) gs) u (apart_filter (λ g. group_number g == u) gs a)
        (λ g c. (let r = filtered (λ g. group_number g == u) gs g c in subst (λ (n : ℕ). Contains g n) (eqb-true (group_number g) u r.1) (number_member g (some g r.0))))
    go false = omega arith

-- ---- all groups
record FromPlace (f : ℕ → List (List ℕ)) (us : List ℕ) (x : List ℕ) : Type 0 where
  pub place : ℕ
  pub among : Contains us place
  pub there : Contains (f place) x

from_flat : (f : ℕ → List (List ℕ)) (us : List ℕ) (x : List ℕ) → Contains (flat_map f us) x → FromPlace f us x
from_flat f [] x c = absurd (in_none x c)
from_flat f (u ∷ us) x c = elim (Contains-append_cases (f u) (flat_map f us) x c) [
  | inl h ↦ record { place = u; among = at_head u us; there = h }
  | inr t ↦ (let r = from_flat f us x t in record { place = r.place; among = in_tail u r.place us r.among; there = r.there })
]

all_apart : (gs : List (List ℕ)) (a n : ℕ) → AreApart gs → AreApart (flat_map (groups_at gs) (range_with_len a n))
all_apart gs a zero d = tt
all_apart gs a (suc n) d =
    apart_append (groups_at gs a) (flat_map (groups_at gs) (range_with_len (a + 1) n)) (at_self gs a d) (all_apart gs (a + 1) n d)
    (λ g h u cg ch mg mh. (let r = from_flat (groups_at gs) (range_with_len (a + 1) n) h ch in
    let w = range_within (a + 1) n r.place r.among in
    at_apart gs a r.place u g h d (λ e. (let k = w.0 in omega (arith, e, k))) cg r.there mg mh))

all_most : (gs : List (List ℕ)) (a n : ℕ) → AreApart gs → ((g : List ℕ) → Contains gs g → 0 < length g) → length (flat_map (groups_at gs) (range_with_len a n)) ≤ n
all_most gs a zero d some = omega arith
all_most gs a (suc n) d some =
    let one = at_most gs a d some in
    let rest = all_most gs (a + 1) n d some in
    let whole = length-append (groups_at gs a) (flat_map (groups_at gs) (range_with_len (a + 1) n)) in
    omega (arith, one, rest, whole)

-- numbers at the front that are in no list are groups by themselves, at their places
pub front_at : (gs : List (List ℕ)) (a n u : ℕ) → ((k : ℕ) → k ≤ u → list_any (is_among (a + k)) gs ≡ false) → u < n
    → (u < length (flat_map (groups_at gs) (range_with_len a n))) × (get_or (flat_map (groups_at gs) (range_with_len a n)) u [] ≡ (a + u) ∷ [])
front_at gs a zero u h l = absurd (omega (arith, l))
front_at gs a (suc n) u h l = by u h l (λ v g m. front_at gs (a + 1) n v g m)
  where
    rest : List (List ℕ)
    rest = flat_map (groups_at gs) (range_with_len (a + 1) n)

    none : list_any (is_among (a + 0)) gs ≡ false → groups_at gs a ≡ (a ∷ []) ∷ []
    none q = let z : a + 0 ≡ a = omega arith in
        ap (λ (b : Bool). if b then filter (λ g. group_number g == a) gs else (a ∷ []) ∷ []) (sym (ap (λ (k : ℕ). list_any (is_among k) gs) z) ∙ q)

    by : (u : ℕ) → ((k : ℕ) → k ≤ u → list_any (is_among (a + k)) gs ≡ false) → u < suc n
        → ((v : ℕ) → ((k : ℕ) → k ≤ v → list_any (is_among (a + 1 + k)) gs ≡ false) → v < n → (v < length rest) × (get_or rest v [] ≡ (a + 1 + v) ∷ []))
        → (u < length (groups_at gs a ++ rest)) × (get_or (groups_at gs a ++ rest) u [] ≡ (a + u) ∷ [])
    by zero h l ih =
        let one = none (h 0 (omega arith)) in
        let z : a ≡ a + 0 = omega arith in
        subst (λ (xs : List (List ℕ)). (0 < length (xs ++ rest)) × (get_or (xs ++ rest) 0 [] ≡ (a + 0) ∷ [])) (sym one) (omega arith, ap (λ (k : ℕ). k ∷ []) z)
    by (suc v) h l ih =
        let one = none (h 0 (omega arith)) in
        let z : a + 1 + v ≡ a + suc v = omega arith in
        let r = ih v (λ k le. (let y : a + suc k ≡ a + 1 + k = omega arith in sym (ap (λ (m : ℕ). list_any (is_among m) gs) y) ∙ h (suc k) (omega (arith, le)))) (omega (arith, l)) in
        subst (λ (xs : List (List ℕ)). (suc v < length (xs ++ rest)) × (get_or (xs ++ rest) (suc v) [] ≡ (a + suc v) ∷ [])) (sym one)
        ((let s = r.0 in omega (arith, s)), r.1 ∙ ap (λ (k : ℕ). k ∷ []) z)

-- ---- the whole: lists in order below n, apart
pub record AreLists (n : ℕ) (gs : List (List ℕ)) : Type 0 where
  pub some : (g : List ℕ) → Contains gs g → 0 < length g
  pub below : (g : List ℕ) (u : ℕ) → Contains gs g → Contains g u → u < n
  pub ascending : (g : List ℕ) (i j : ℕ) → Contains gs g → i < j → j < length g → slice_index g i < slice_index g j
  pub apart : AreApart gs

-- what is so of groups of the numbers below n
pub record InPlaces (n : ℕ) (all : List (List ℕ)) : Type 0 where
  pub held : (u : ℕ) → u < n → (position_or_len (is_among u) all < length all) × Contains (get_or all (position_or_len (is_among u) all) []) u
  pub place : (g u : ℕ) → g < length all → Contains (get_or all g []) u → (u < n) × (position_or_len (is_among u) all ≡ g)
  pub few : length all ≤ n
  pub some : (g : ℕ) → g < length all → 0 < length (get_or all g [])
  pub ascending : (g i j : ℕ) → g < length all → i < j → j < length (get_or all g []) → slice_index (get_or all g []) i < slice_index (get_or all g []) j

-- where a number stands in lists apart
place_is : (all : List (List ℕ)) (g u : ℕ) → AreApart all → g < length all → Contains (get_or all g []) u → position_or_len (is_among u) all ≡ g
place_is all g u d l m = position_or_len_is (is_among u) all g [] (omega (arith, l))
    (λ k h. elim (cases_Bool (is_among u (get_or all k []))) [
      | inl t ↦ (let f = any_found (λ v. v == u) (get_or all k []) t in
          absurd (apart_at all k g u d h l (subst (λ (w : ℕ). Contains (get_or all k []) w) (eqb-true f.0 u f.2) f.1) m))
      | inr f ↦ f
    ])
    (λ h. any_here (λ v. v == u) (get_or all g []) u m (eq-eqb u u refl))

group_is : (n : ℕ) (gs : List (List ℕ)) (x : List ℕ) → AreLists n gs → Contains (flat_map (groups_at gs) (range_with_len 0 n)) x → Contains gs x ⊎ ((u : ℕ) × (u < n) × (x ≡ u ∷ []))
group_is n gs x a c =
    let r = from_flat (groups_at gs) (range_with_len 0 n) x c in
    let w = range_within 0 n r.place r.among in
    elim (at_cases gs r.place x r.there) [
      | inl s ↦ inl s.stands
      | inr s ↦ inr (r.place, (let k = w.1 in omega (arith, k)), s.is)
    ]

pub in_places : (n : ℕ) (gs : List (List ℕ)) → AreLists n gs → InPlaces n (flat_map (groups_at gs) (range_with_len 0 n))
in_places n gs a =
    let all = flat_map (groups_at gs) (range_with_len 0 n) in
    let d : AreApart all = all_apart gs 0 n a.apart in
    let is = λ (g : ℕ) (l : g < length all). group_is n gs (get_or all g []) a (Contains-get_or all g [] l) in
    let has : (u : ℕ) (x : List ℕ) → Contains all x → Contains x u → (position_or_len (is_among u) all < length all) × Contains (get_or all (position_or_len (is_among u) all) []) u = λ u x c m.
    (let k = c.0 in
    let same : get_or all k [] ≡ x = get_or_default all k [] x c.1 ∙ c.2 in
    let there : Contains (get_or all k []) u = subst (λ (y : List ℕ). Contains y u) (sym same) m in
    let e = place_is all k u d c.1 there in
    subst (λ (p : ℕ). (p < length all) × Contains (get_or all p []) u) (sym e) (c.1, there)) in
    record {
      held = λ u l. elim (cases_Bool (list_any (is_among u) gs)) [
        | inl t ↦ (let f = any_found (is_among u) gs t in
            let g = f.0 in
            let v = any_found (λ v. v == u) g f.2 in
            let m : Contains g u = subst (λ (w : ℕ). Contains g w) (eqb-true v.0 u v.2) v.1 in
            let last = number_member g (a.some g f.1) in
            let among = is_member gs g (group_number g) f.1 last in
            has u g (in_flat (groups_at gs) (range_with_len 0 n) (group_number g) g (in_range n (group_number g) (a.below g (group_number g) f.1 last))
            (subst (λ (b : Bool). Contains (if b then filter (λ x. group_number x == group_number g) gs else (group_number g ∷ []) ∷ []) g) (sym among) (in_filter (λ x. group_number x == group_number g) gs g f.1 (eq-eqb (group_number g) (group_number g) refl)))) m)
        | inr f ↦ has u (u ∷ []) (in_flat (groups_at gs) (range_with_len 0 n) u (u ∷ []) (in_range n u l)
            (subst (λ (b : Bool). Contains (if b then filter (λ x. group_number x == u) gs else (u ∷ []) ∷ []) (u ∷ [])) (sym f) (at_head (u ∷ []) []))) (at_head u [])
      ];
      place = λ g u l m. (
        elim (is g l) [
          | inl c ↦ a.below (get_or all g []) u c m
          | inr s ↦ (let e : s.0 ≡ u = only_head s.0 u (subst (λ (y : List ℕ). Contains y u) s.2 m) in let k = s.1 in omega (arith, e, k))
        ],
        place_is all g u d l m,
      );
      few = all_most gs 0 n a.apart a.some;
      some = λ g l. elim (is g l) [
        | inl c ↦ a.some (get_or all g []) c
        | inr s ↦ (let e = ap (λ (y : List ℕ). length y) s.2 in omega (arith, e))
      ];
      ascending = λ g i j l r k. elim (is g l) [
        | inl c ↦ a.ascending (get_or all g []) i j c r k
        | inr s ↦ (let e = ap (λ (y : List ℕ). length y) s.2 in absurd (omega (arith, e, r, k)))
      ];
    }
