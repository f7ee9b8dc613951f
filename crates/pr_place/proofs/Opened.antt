-- From one stripe to the next.
use Rattle.std.proofs.Common.{◌≡◌, ◌≢◌, ℕ, suc, ◌-◌, ◌^◌, ◌<◌, ◌≤◌, ◌⊎◌, ◌==◌, ◌&&◌, Bool, true, false, not, nat_lt, List, [], ◌∷◌, ◌++◌, length, get_or, set, Option, None, Some, if◌then◌else◌, refl, sym, ap, ap₂, ◌∙◌, subst, inl, inr, arith, get_or-set_same, get_or-set_other, length-set, length-append}
use Rattle.std.specs.Int.{bit_at}
use Rattle.std.specs.List.{Contains, fold, sum_by, All}
use Rattle.std.specs.Option.{is_some}
use Rattle.std.proofs.lemmas.Bool.{cases_eq, cases_Bool, and_from, and_parts, eq-eqb, eqb-true, ne_eqb, lt-ltb, ltb-true, false≢true, false_from_ne_true}
use Rattle.std.proofs.lemmas.List.{get_or_default, append-nil}
use Rattle.std.proofs.lemmas.List.Elements.{Contains-get_or}
use Rattle.std.proofs.lemmas.List.Sums.{sum_by-cons}
use Rattle.std.proofs.lemmas.Nat.Bits.{bit_at_ones}
use Rattle.pr_net.specs.Shape.{NetShape, units_of}
use Rattle.pr_net.specs.Nets.{IsNet, group_of, group_reads}
use Rattle.pr_net.proofs.Lists.{any_here, any_found, at_head, in_tail, head_or_tail, range_below}
use Rattle.pr_place.specs.declared.lookups.Tables.{Tables}
use Rattle.pr_place.specs.Greedy.{Spot, Seat, spots_of, groups_in, is_placed, seats_from, reads_group, turn, stripe, placed_after}
use Rattle.pr_place.specs.Registers.{Progress, count_of}
use Rattle.pr_place.specs.Tracking.{IsCellOf, Filling, Sound, ops_of}
use Rattle.pr_place.specs.Tables.{AreTables, reads_in, readers_in}
use Rattle.pr_place.specs.Waits.{waits_of}
use Rattle.pr_place.specs.Opening.{reads_of, AreReady, Staged, left_of, Received, Opening, noted, readings, Woken}
use Rattle.pr_place.proofs.Spots.{no_spot, spot, position}
use Rattle.pr_place.proofs.Soundness.{spot_in}
use Rattle.pr_place.proofs.Stripes.{turn_cases, placed_sound, placed_below}
use Rattle.pr_place.proofs.Stages.{turns_less}
use Rattle.pr_place.proofs.Seats.{length-seats_from}
use Rattle.pr_place.proofs.Waking.{ready_is, no_waits}

-- a spot of a group is a cell of it
pub cell_at : (N : ℕ) (net : NetShape) → IsNet N net → (h : ℕ) (x : Spot) → h < length net.groups → Contains (spots_of net h) x → IsCellOf net h x.unit x.place
cell_at N net n h x l c =
    let us = units_of net h in
    let p = position net us c.0 no_spot c.1 in
    let e : get_or (spots_of net h) c.0 no_spot ≡ x = get_or_default (spots_of net h) c.0 no_spot x c.1 ∙ c.2 in
    let own = n.members h (get_or us p.index 0) l (Contains-get_or us p.index 0 p.below) in
    subst (λ (y : Spot). IsCellOf net h y.unit y.place) e (record {
      group = l;
      is = ap (group_of net) p.unit ∙ own.1;
      unit = subst (λ (u : ℕ). u < length net.units) (sym p.unit) own.0;
      place = p.place;
    })

pub spot_at : (N : ℕ) (net : NetShape) → IsNet N net → (h v j : ℕ) → IsCellOf net h v j → Contains (spots_of net h) (spot v j)
spot_at N net n h v j c = subst (λ (k : ℕ). Contains (spots_of net k) (spot v j)) c.is (spot_in N net n v j (record { unit = c.unit; place = c.place }))

-- ---- the stripe may be filled
pub fills_now : (N P : ℕ) (net : NetShape) (t : Tables) (s : Progress) (ready summary waits : List ℕ) (stages : List (Option ℕ)) (stage : ℕ) → AreTables N P net t → Opening N P net t s ready summary waits stages stage (placed_after N P net stage)
    → Filling N P net t.cells.first.items t.cells.kept.items t.plans t.class.items summary ready s stage (2 ^ 64 - 1) 0 (placed_after N P net stage)
fills_now N P net t s ready summary waits stages stage tables h =
    let placed = placed_after N P net stage in
    let fixed = tables.fixed in
    let able = λ (g : ℕ) (l : g < length net.groups). ready_is N P net t.cells.first.items (ops_of t.plans) t.cells.owner.items (length t.cells.owner.items) stage g placed fixed.numbered tables.owned (placed_below N P net stage fixed.net_is fixed.registers) (cell_at N net fixed.net_is) (spot_at N net fixed.net_is) l in
    record {
      uses_long = h.uses_long;
      ready_long = h.ready_long;
      blocks = h.blocks;
      covered = h.covered;
      sound = placed_sound N P net stage fixed.net_is fixed.registers;
      tracks = h.tracks;
      offers = record {
        ready_is = λ g l lo. h.candidates.ready_is g l ∙ ap (λ (n : ℕ). not (is_placed placed g) && (n == 0)) (h.waiting.is g l) ∙ ap (λ (b : Bool). not (is_placed placed g) && b) (sym (able g l));
        class_is = λ g l lo small. h.candidates.class_is g l small;
        alike = tables.alike;
        blocked = λ g l lo small out. absurd (false≢true (sym out ∙ and_from (nat_lt (get_or ready g 0) 64) (bit_at (2 ^ 64 - 1) (get_or ready g 0) == 1) (lt-ltb _ 64 small) (eq-eqb (bit_at (2 ^ 64 - 1) (get_or ready g 0)) 1 (bit_at_ones 64 (get_or ready g 0) small))));
      };
    }

-- ---- the stage of each group
pub noted_long : (stage : ℕ) (groups : List ℕ) (stages : List (Option ℕ)) → length (noted stage stages groups) ≡ length stages
noted_long stage [] stages = refl
noted_long stage (r ∷ rs) stages = noted_long stage rs (set stages r (Some stage)) ∙ length-set stages r (Some stage)

pub noted_other : (stage : ℕ) (groups : List ℕ) (stages : List (Option ℕ)) (g : ℕ) → (Contains groups g → ⊥) → get_or (noted stage stages groups) g None ≡ get_or stages g None
noted_other stage [] stages g out = refl
noted_other stage (r ∷ rs) stages g out = noted_other stage rs (set stages r (Some stage)) g (λ c. out (in_tail r g rs c)) ∙ get_or-set_other stages r g (Some stage) None (λ e. out (subst (Contains (r ∷ rs)) (sym e) (at_head r rs)))

pub noted_here : (stage : ℕ) (groups : List ℕ) (stages : List (Option ℕ)) (g : ℕ) → g < length stages → Contains groups g ⊎ (get_or stages g None ≡ Some stage) → get_or (noted stage stages groups) g None ≡ Some stage
noted_here stage [] stages g l (inl c) = absurd (omega (arith, c.1))
noted_here stage [] stages g l (inr e) = e
noted_here stage (r ∷ rs) stages g l h =
    let next = set stages r (Some stage) in
    noted_here stage rs next g (let e = length-set stages r (Some stage) in omega (arith, e, l)) (elim (cases_eq g r) [
      | inl e ↦ inr (ap (λ (k : ℕ). get_or next k None) e ∙ get_or-set_same stages r (Some stage) None (subst (λ (k : ℕ). k < length stages) e l))
      | inr ne ↦ elim h [
        | inl c ↦ elim (head_or_tail r g rs c) [ inl e ↦ absurd (ne (sym e)) | inr there ↦ inl there ]
        | inr e ↦ inr (get_or-set_other stages r g (Some stage) None ne ∙ e)
      ]
    ])

-- whether a group is in the list
member : (groups : List ℕ) (g : ℕ) → Contains groups g ⊎ (Contains groups g → ⊥)
member [] g = inr (λ c. absurd (omega (arith, c.1)))
member (r ∷ rs) g = elim (cases_eq g r) [
  | inl e ↦ inl (subst (Contains (r ∷ rs)) (sym e) (at_head r rs))
  | inr ne ↦ elim (member rs g) [ inl c ↦ inl (in_tail r g rs c) | inr out ↦ inr (λ c. elim (head_or_tail r g rs c) [ inl e ↦ ne (sym e) | inr there ↦ out there ]) ]
]

placed_self : (placed : List Seat) (t : Seat) → Contains placed t → is_placed placed t.group ≡ true
placed_self placed t c = any_here (λ (k : Seat). k.group == t.group) placed t c (eq-eqb t.group t.group refl)

stays_placed : (start placed : List Seat) → ((t : Seat) → Contains start t → Contains placed t) → (g : ℕ) → is_placed start g ≡ true → is_placed placed g ≡ true
stays_placed start placed stays g y = let t = any_found (λ (k : Seat). k.group == g) start y in any_here (λ (k : Seat). k.group == g) placed t.0 (stays t.0 t.1) t.2

pub staged_on : (net : NetShape) (class : List ℕ) (stage : ℕ) (start placed : List Seat) (before ready groups : List ℕ) (stages : List (Option ℕ)) → ((t : Seat) → Contains placed t → t.group < length net.groups) → Received net class stage start placed before ready groups → Staged net start stages
    → Staged net placed (noted stage stages groups)
staged_on net class stage start placed before ready groups stages inside r h = record {
  long = noted_long stage groups stages ∙ h.long;
  stands = λ t c. elim (r.seats t c) [
    | inl old ↦ noted_other stage groups stages t.group (λ got. false≢true (sym (r.inside t.group got).1 ∙ placed_self start t old)) ∙ h.stands t old
    | inr (s, got) ↦ noted_here stage groups stages t.group (let l = inside t c in let e = h.long in omega (arith, l, e)) (inl got) ∙ ap Some (sym s)
  ];
  placed_is = λ g l. elim (member groups g) [
    | inl got ↦ (r.inside g got).2 ∙ sym (ap (λ (o : Option ℕ). is_some o) (noted_here stage groups stages g (let e = h.long in omega (arith, l, e)) (inl got)))
    | inr out ↦ same g out ∙ h.placed_is g l ∙ sym (ap (λ (o : Option ℕ). is_some o) (noted_other stage groups stages g out))
  ];
}
  where
    same : (g : ℕ) → (Contains groups g → ⊥) → is_placed placed g ≡ is_placed start g
    same g out = elim (cases_Bool (is_placed start g)) [
      | inl y ↦ stays_placed start placed r.stays g y ∙ sym y
      | inr f ↦ false_from_ne_true (is_placed placed g) (λ y.
          let t = any_found (λ (k : Seat). k.group == g) placed y in
          let tg : t.0.group ≡ g = eqb-true t.0.group g t.2 in
          elim (r.seats t.0 t.1) [
            | inl old ↦ false≢true (sym f ∙ subst (λ (k : ℕ). is_placed start k ≡ true) tg (placed_self start t.0 old))
            | inr (s, got) ↦ out (subst (Contains groups) tg got)
          ]) ∙ sym f
    ]

-- ---- what groups wait for
sum_same : (f k : ℕ → ℕ) (xs : List ℕ) → ((x : ℕ) → Contains xs x → f x ≡ k x) → sum_by f xs ≡ sum_by k xs
sum_same f k [] h = refl
sum_same f k (x ∷ xs) h =
    let a = sum_by-cons f x xs in
    let b = sum_by-cons k x xs in
    let own = h x (at_head x xs) in
    let rest = sum_same f k xs (λ y c. h y (in_tail x y xs c)) in
    omega (arith, a, b, own, rest)

abbrev one_if : Bool → ℕ
one_if b = if b then 1 else 0

none_counted : (n g : ℕ) (xs : List ℕ) → All (λ x. x < n) xs → n ≤ g → count_of g xs ≡ 0
none_counted n g [] h l = refl
none_counted n g (x ∷ xs) h l =
    let low : x < n = h 0 0 (omega arith) in
    let own : one_if (x == g) ≡ 0 = ap one_if (ne_eqb x g (λ e. (let q : x ≡ g = e in omega (arith, low, l, q)))) in
    let rest = none_counted n g xs (λ k d m. h (suc k) d (omega (arith, m))) l in
    omega (arith, own, rest)

-- how often a group reads these, by the tables
pub readings_are : (N P : ℕ) (net : NetShape) (t : Tables) (groups : List ℕ) (g : ℕ) → AreTables N P net t → ((h : ℕ) → Contains groups h → h < length net.groups) → g < length net.groups
    → readings t g groups ≡ sum_by (λ h. reads_of t.cells.owner.items h (reads_in t g)) groups
readings_are N P net t groups g tables inside l = sum_same (λ h. count_of g (readers_in t h)) (λ h. reads_of t.cells.owner.items h (reads_in t g)) groups (λ h c. tables.readers h g (inside h c) l)

pub no_readings : (N P : ℕ) (net : NetShape) (t : Tables) (groups : List ℕ) (g : ℕ) → AreTables N P net t → ((h : ℕ) → Contains groups h → h < length net.groups) → length net.groups ≤ g → readings t g groups ≡ 0
no_readings N P net t [] g tables inside l = refl
no_readings N P net t (h ∷ hs) g tables inside l =
    let a = sum_by-cons (λ k. count_of g (readers_in t k)) h hs in
    let own = none_counted (length net.groups) g (readers_in t h) (tables.readers_there h) l in
    let rest = no_readings N P net t hs g tables (λ k c. inside k (in_tail h k hs c)) l in
    omega (arith, a, own, rest)

-- a group that is placed waited for nothing before
pub waited_for_none : (N P : ℕ) (net : NetShape) (t : Tables) (class before ready groups : List ℕ) (stage : ℕ) (start placed : List Seat) → AreTables N P net t → Sound N P net stage placed → Received net class stage start placed before ready groups
    → (g : ℕ) → g < length net.groups → is_placed placed g ≡ true → waits_of t.cells.owner.items start (reads_in t g) ≡ 0
waited_for_none N P net t class before ready groups stage start placed tables sound r g l y =
    let n = tables.fixed.net_is in
    no_waits t.cells.owner.items start (reads_in t g) (λ x c.
    let q = tables.fixed.numbered.read_cells g x l c in
    let k = any_found (λ (o : Seat). o.group == g) placed y in
    let kg : k.0.group ≡ g = eqb-true k.0.group g k.2 in
    let reads : reads_group net k.0.group q.0 ≡ true = subst (λ (p : ℕ). reads_group net p q.0 ≡ true) (sym kg) (any_here (λ (p : Spot). group_reads net p.unit p.place g) (spots_of net q.0) (spot q.1 q.2) (spot_at N net n q.0 q.1 q.2 q.3) q.6) in
    let earlier = sound.earlier k.0 k.1 q.0 q.3.group (λ e. q.5 (e ∙ kg)) reads in
    let o = any_found (λ (p : Seat). (p.group == q.0) && nat_lt p.stage k.0.stage) placed earlier in
    let parts = and_parts (o.0.group == q.0) (nat_lt o.0.stage k.0.stage) o.2 in
    let less = ltb-true o.0.stage k.0.stage parts.1 in
    let low = sound.low k.0 k.1 in
    let old : Contains start o.0 = elim (r.seats o.0 o.1) [ inl there ↦ there | inr (s, got) ↦ absurd (let e : o.0.stage ≡ stage = s in omega (arith, e, less, low)) ] in
    let own : get_or t.cells.owner.items x 0 ≡ o.0.group = ap (λ (p : ℕ). get_or t.cells.owner.items p 0) (sym q.4) ∙ tables.owned.owner_is q.0 q.1 q.2 q.3 ∙ sym (eqb-true o.0.group q.0 parts.0) in
    subst (λ (p : ℕ). is_placed start p ≡ true) (sym own) (placed_self start o.0 old))

-- once they have woken the candidates are right again
pub ready_again : (net : NetShape) (class waits now ready candidates : List ℕ) (placed : List Seat) → ((g : ℕ) → get_or class g 0 < 64) → ((g : ℕ) → g < length net.groups → is_placed placed g ≡ true → get_or waits g 0 ≡ 0) → AreReady net class waits placed ready → Woken class waits ready now candidates
    → AreReady net class now placed candidates
ready_again net class waits now ready candidates placed small none h w = record {
  ready_is = λ g l. elim (cases_eq (get_or now g 0) 0) [
    | inl z ↦ elim (cases_eq (get_or waits g 0) 0) [
      | inl before ↦ ap (λ (k : ℕ). nat_lt k 64) (w.still g (λ q. before)) ∙ h.ready_is g l ∙ ap (λ (k : ℕ). not (is_placed placed g) && (k == 0)) (before ∙ sym z)
      | inr some ↦
          (let new : is_placed placed g ≡ false = false_from_ne_true (is_placed placed g) (λ y. some (none g l y)) in
          ap (λ (k : ℕ). nat_lt k 64) (w.woken g some z) ∙ lt-ltb (get_or class g 0) 64 (small g) ∙ sym (ap₂ (λ (b d : Bool). not b && d) new (eq-eqb (get_or now g 0) 0 z)))
    ]
    | inr some ↦
        (let less = w.less g in
        let before : get_or waits g 0 ≢ 0 = λ q. some (let e : get_or waits g 0 ≡ 0 = q in omega (arith, e, less)) in
        ap (λ (k : ℕ). nat_lt k 64) (w.still g (λ q. absurd (some q))) ∙ h.ready_is g l ∙ ap (λ (b : Bool). not (is_placed placed g) && b) (ne_eqb (get_or waits g 0) 0 before ∙ sym (ne_eqb (get_or now g 0) 0 some)))
  ];
  class_is = λ g l s. elim (cases_eq (get_or now g 0) 0) [
    | inl z ↦ elim (cases_eq (get_or waits g 0) 0) [
      | inl before ↦ (let e = w.still g (λ q. before) in e ∙ h.class_is g l (subst (λ (k : ℕ). k < 64) e s))
      | inr some ↦ w.woken g some z
    ]
    | inr some ↦ (let e = w.still g (λ q. absurd (some q)) in e ∙ h.class_is g l (subst (λ (k : ℕ). k < 64) e s))
  ];
}

-- ---- a stripe that receives a group has more seats, one that receives none is as it was
turn_longer : (N P : ℕ) (net : NetShape) (stage : ℕ) (placed : List Seat) (g : ℕ) → (turn N P net stage placed g ≡ placed) ⊎ (length placed < length (turn N P net stage placed g))
turn_longer N P net stage placed g = elim (turn_cases N P net stage placed g) [
  | inr same ↦ inl same
  | inl (col, p) ↦ by_seats (spots_of net g) col p.is
]
  where
    by_seats : (xs : List Spot) (col : ℕ) → turn N P net stage placed g ≡ placed ++ seats_from P net placed stage g xs col → (turn N P net stage placed g ≡ placed) ⊎ (length placed < length (turn N P net stage placed g))
    by_seats [] col is = inl (is ∙ append-nil placed)
    by_seats (x ∷ xs) col is =
        let e : length (turn N P net stage placed g) ≡ length (placed ++ seats_from P net placed stage g (x ∷ xs) col) = ap length is in
        let a = length-append placed (seats_from P net placed stage g (x ∷ xs) col) in
        let b = length-seats_from P net placed stage g (x ∷ xs) col in
        inr (omega (arith, e, a, b))

turns_longer : (N P : ℕ) (net : NetShape) (stage : ℕ) (gs : List ℕ) (placed : List Seat) → (fold (turn N P net stage) placed gs ≡ placed) ⊎ (length placed < length (fold (turn N P net stage) placed gs))
turns_longer N P net stage [] placed = inl refl
turns_longer N P net stage (g ∷ gs) placed =
    let next = turn N P net stage placed g in
    elim (turns_longer N P net stage gs next) [
      | inl rest ↦ elim (turn_longer N P net stage placed g) [
        | inl one ↦ inl (rest ∙ one)
        | inr more ↦ inr (let e : length (fold (turn N P net stage) next gs) ≡ length next = ap length rest in omega (arith, e, more))
      ]
      | inr rest ↦ elim (turn_longer N P net stage placed g) [
        | inl one ↦ inr (let e : length next ≡ length placed = ap length one in omega (arith, e, rest))
        | inr more ↦ inr (omega (arith, rest, more))
      ]
    ]

pub stripe_grows : (N P : ℕ) (net : NetShape) (stage : ℕ) (class before ready groups : List ℕ) (start : List Seat) → Received net class stage start (stripe N P net stage start) before ready groups → 0 < length groups → length start < length (stripe N P net stage start)
stripe_grows N P net stage class before ready groups start r some = elim (turns_longer N P net stage (groups_in net) start) [
  | inl same ↦ absurd (let e : left_of net (stripe N P net stage start) ≡ left_of net start = ap (left_of net) same in let l = r.left in omega (arith, e, l, some))
  | inr more ↦ more
]

pub stripe_idle : (N P : ℕ) (net : NetShape) (stage : ℕ) (class before ready groups : List ℕ) (start : List Seat) → Received net class stage start (stripe N P net stage start) before ready groups → length groups ≡ 0 → stripe N P net stage start ≡ start
stripe_idle N P net stage class before ready groups start r none = elim (turns_less N P net stage (groups_in net) start (λ g c. range_below (length net.groups) g c)) [
  | inl same ↦ same
  | inr less ↦ absurd (let l = r.left in omega (arith, less, l, none))
]
