-- A stripe that received no group is followed by stripes that receive none, so that NoFit has one number.
use Rattle.std.proofs.Common.{◌≡◌, ℕ, zero, suc, ◌+◌, ◌-◌, ◌<◌, ◌≤◌, ◌==◌, ◌&&◌, ◌||◌, Bool, true, false, not, List, [], ◌∷◌, ◌++◌, length, nat_lt, is_some, Some, refl, sym, ap, ap₂, ◌∙◌, subst, inl, inr, arith}
use Rattle.std.specs.List.{Contains, fold, find, list_all}
use Rattle.std.proofs.lemmas.Bool.{cases_order}
use Rattle.std.proofs.lemmas.Bool.Decides.{nat_tests}
use Rattle.std.proofs.lemmas.List.{append-nil, length-append, nil_from_length}
use Rattle.std.proofs.lemmas.List.Elements.{Contains-append_cases}
use Rattle.pr_net.specs.Shape.{NetShape}
use Rattle.pr_net.proofs.Lists.{at_head, in_tail}
use Rattle.pr_place.specs.Greedy.{Spot, Seat, spots_of, groups_in, needs_register, is_placed, is_taken, free_register, fit_from, fits, seats_from, stands_before, reads_group, is_ready, least_column, turn, stripe, placed_after, number_of_group, IsNoFit}
use Rattle.pr_place.proofs.Seats.{seat_at}
use Rattle.pr_place.proofs.Tables.{find_same, turn_puts}
use Rattle.pr_place.proofs.Stripes.{turn_cases}

-- ---- seats stand in stripes that are filled
Below : ℕ → List Seat → Type 0
Below s placed = (t : Seat) → Contains placed t → t.stage < s

turn_below : (N P : ℕ) (net : NetShape) (s : ℕ) (placed : List Seat) (g : ℕ) → Below (suc s) placed → Below (suc s) (turn N P net s placed g)
unfolding Below
turn_below N P net s placed g h = elim (turn_cases N P net s placed g) [
  | inr same ↦ subst (λ (ps : List Seat). (t : Seat) → Contains ps t → t.stage < suc s) (sym same) h
  | inl (col, p) ↦ subst (λ (ps : List Seat). (t : Seat) → Contains ps t → t.stage < suc s) (sym p.is) (λ t c. elim (Contains-append_cases placed (seats_from P net placed s g (spots_of net g) col) t c) [
    | inl old ↦ h t old
    | inr new ↦ (let e : t.stage ≡ s = ap (λ (k : Seat). k.stage) (seat_at P net placed s g (spots_of net g) col t new).is in omega (arith, e))
  ])
]

turns_below : (N P : ℕ) (net : NetShape) (s : ℕ) (gs : List ℕ) (placed : List Seat) → Below (suc s) placed → Below (suc s) (fold (turn N P net s) placed gs)
turns_below N P net s [] placed h = h
turns_below N P net s (g ∷ gs) placed h = turns_below N P net s gs (turn N P net s placed g) (turn_below N P net s placed g h)

filled_below : (N P : ℕ) (net : NetShape) (s : ℕ) → Below s (placed_after N P net s)
unfolding placed_after Below
filled_below N P net zero t c = absurd (omega (arith, c.1))
filled_below N P net (suc s) t c = turns_below N P net s (groups_in net) (placed_after N P net s) (λ o k. (let l = filled_below N P net s o k in omega (arith, l))) t c

-- ---- the next stripe is as this one, where nothing stands in either
taken_later : (s : ℕ) (placed : List Seat) (col : ℕ) → ((t : Seat) → Contains placed t → t.stage < s) → is_taken placed s col ≡ is_taken placed (suc s) col
taken_later s [] col h = refl
taken_later s (t ∷ placed) col h =
    let l = h t (at_head t placed) in
    let here : (t.stage == s) ≡ false = grind (arith, nat_tests, l) in
    let next : (t.stage == suc s) ≡ false = grind (arith, nat_tests, l) in
    ap₂ (λ (a b : Bool). (a && (t.col == col)) || b) (here ∙ sym next) (taken_later s placed col (λ o c. h o (in_tail t o placed c)))

before_later : (s : ℕ) (placed : List Seat) (g : ℕ) → ((t : Seat) → Contains placed t → t.stage < s) → stands_before placed s g ≡ stands_before placed (suc s) g
before_later s [] g h = refl
before_later s (t ∷ placed) g h =
    let l = h t (at_head t placed) in
    let here : nat_lt t.stage s ≡ true = grind (arith, nat_tests, l) in
    let next : nat_lt t.stage (suc s) ≡ true = grind (arith, nat_tests, l) in
    ap₂ (λ (a b : Bool). ((t.group == g) && a) || b) (here ∙ sym next) (before_later s placed g (λ o c. h o (in_tail t o placed c)))

ready_later : (net : NetShape) (s : ℕ) (placed : List Seat) (g : ℕ) (hs : List ℕ) → ((t : Seat) → Contains placed t → t.stage < s)
    → list_all (λ h. (h == g) || (not (reads_group net g h) || stands_before placed s h)) hs ≡ list_all (λ h. (h == g) || (not (reads_group net g h) || stands_before placed (suc s) h)) hs
ready_later net s placed g [] low = refl
ready_later net s placed g (h ∷ hs) low = ap₂ (λ (a b : Bool). ((h == g) || (not (reads_group net g h) || a)) && b) (before_later s placed h low) (ready_later net s placed g hs low)

fit_later : (N P : ℕ) (net : NetShape) (s : ℕ) (placed : List Seat) (g : ℕ) (xs : List Spot) (col : ℕ) → ((t : Seat) → Contains placed t → t.stage < s) → fit_from N P net placed s g xs col ≡ fit_from N P net placed (suc s) g xs col
fit_later N P net s placed g [] col low = refl
fit_later N P net s placed g (x ∷ xs) col low =
    ap₂ (λ (a b : Bool). (nat_lt col N && (not a && (not (needs_register net g x) || is_some (free_register P net placed col)))) && b) (taken_later s placed col low) (fit_later N P net s placed g xs (col + 1) low)

column_later : (N P : ℕ) (net : NetShape) (s : ℕ) (placed : List Seat) (g : ℕ) → ((t : Seat) → Contains placed t → t.stage < s) → least_column N P net s placed g ≡ least_column N P net (suc s) placed g
column_later N P net s placed g low = find_same (fits N P net placed s g) (fits N P net placed (suc s) g) 0 N (λ x l u. fit_later N P net s placed g (spots_of net g) x low)

-- what is appended is nothing where all stays
appended_none : (placed b : List Seat) → placed ++ b ≡ placed → b ≡ []
appended_none placed b e = nil_from_length b (let l = length-append placed b in let m : length (placed ++ b) ≡ length placed = ap length e in omega (arith, l, m))

no_seats : (P : ℕ) (net : NetShape) (s g : ℕ) (placed : List Seat) (xs : List Spot) (col : ℕ) → seats_from P net placed s g xs col ≡ [] → placed ++ seats_from P net placed (suc s) g xs col ≡ placed
no_seats P net s g placed [] col e = append-nil placed
no_seats P net s g placed (x ∷ xs) col e = absurd (let l : length (seats_from P net placed s g (x ∷ xs) col) ≡ 0 = ap length e in omega (arith, l))

-- a turn that does nothing does nothing in the next stripe
turn_later : (N P : ℕ) (net : NetShape) (s : ℕ) (placed : List Seat) (g : ℕ) → ((t : Seat) → Contains placed t → t.stage < s) → turn N P net s placed g ≡ placed → turn N P net (suc s) placed g ≡ placed
turn_later N P net s placed g low same =
    elim (turn_cases N P net (suc s) placed g) [
      | inr still ↦ still
      | inl (col, p) ↦
          (let ready : is_ready net placed s g ≡ true = ready_later net s placed g (groups_in net) low ∙ p.ready in
          let least : least_column N P net s placed g ≡ Some col = column_later N P net s placed g low ∙ p.least in
          let puts : placed ++ seats_from P net placed s g (spots_of net g) col ≡ placed = sym (turn_puts N P net s placed g col p.new ready least) ∙ same in
          p.is ∙ no_seats P net s g placed (spots_of net g) col (appended_none placed (seats_from P net placed s g (spots_of net g) col) puts))
    ]

-- ---- where a stripe receives nothing, no turn of it does anything
turn_long : (N P : ℕ) (net : NetShape) (s : ℕ) (placed : List Seat) (g : ℕ) → length placed ≤ length (turn N P net s placed g)
turn_long N P net s placed g = elim (turn_cases N P net s placed g) [
  | inr same ↦ (let e : length (turn N P net s placed g) ≡ length placed = ap length same in omega (arith, e))
  | inl (col, p) ↦
      (let b = seats_from P net placed s g (spots_of net g) col in
      let e : length (turn N P net s placed g) ≡ length (placed ++ b) = ap length p.is in
      let l = length-append placed b in omega (arith, e, l))
]

turns_long : (N P : ℕ) (net : NetShape) (s : ℕ) (gs : List ℕ) (placed : List Seat) → length placed ≤ length (fold (turn N P net s) placed gs)
turns_long N P net s [] placed = omega arith
turns_long N P net s (g ∷ gs) placed = let one = turn_long N P net s placed g in let rest = turns_long N P net s gs (turn N P net s placed g) in omega (arith, one, rest)

first_still : (N P : ℕ) (net : NetShape) (s g : ℕ) (gs : List ℕ) (placed : List Seat) → fold (turn N P net s) (turn N P net s placed g) gs ≡ placed → turn N P net s placed g ≡ placed
first_still N P net s g gs placed same = elim (turn_cases N P net s placed g) [
  | inr still ↦ still
  | inl (col, p) ↦
      (let b = seats_from P net placed s g (spots_of net g) col in
      let e : length (turn N P net s placed g) ≡ length (placed ++ b) = ap length p.is in
      let l = length-append placed b in
      let more = turns_long N P net s gs (turn N P net s placed g) in
      let all : length (fold (turn N P net s) (turn N P net s placed g) gs) ≡ length placed = ap length same in
      let none : b ≡ [] = nil_from_length b (omega (arith, e, l, more, all)) in
      p.is ∙ (ap (λ (c : List Seat). placed ++ c) none ∙ append-nil placed))
]

turns_later : (N P : ℕ) (net : NetShape) (s : ℕ) (gs : List ℕ) (placed : List Seat) → ((t : Seat) → Contains placed t → t.stage < s) → fold (turn N P net s) placed gs ≡ placed → fold (turn N P net (suc s)) placed gs ≡ placed
turns_later N P net s [] placed low same = refl
turns_later N P net s (g ∷ gs) placed low same =
    let still = first_still N P net s g gs placed same in
    let next = turn_later N P net s placed g low still in
    let rest : fold (turn N P net s) placed gs ≡ placed = ap (λ (ps : List Seat). fold (turn N P net s) ps gs) (sym still) ∙ same in
    ap (λ (ps : List Seat). fold (turn N P net (suc s)) ps gs) next ∙ turns_later N P net s gs placed low rest

-- ---- NoFit has one number
-- after a stripe that received nothing all stays as it is
record Stays (N P : ℕ) (net : NetShape) (s k : ℕ) : Type 0 where
  same : placed_after N P net (k + s) ≡ placed_after N P net s
  none : placed_after N P net (suc (k + s)) ≡ placed_after N P net (k + s)

stays : (N P : ℕ) (net : NetShape) (s k : ℕ) → placed_after N P net (suc s) ≡ placed_after N P net s → Stays N P net s k
unfolding placed_after Below
stays N P net s zero none =
    let z : s ≡ 0 + s = omega arith in
    subst (λ (m : ℕ). Stays N P net s 0) z (record { same = ap (placed_after N P net) (sym z); none = subst (λ (m : ℕ). placed_after N P net (suc m) ≡ placed_after N P net m) z none })
stays N P net s (suc k) none =
    let before = stays N P net s k none in
    let e : suc (k + s) ≡ suc k + s = omega arith in
    let all = placed_after N P net (k + s) in
    let next : stripe N P net (suc (k + s)) all ≡ all = turns_later N P net (k + s) (groups_in net) all (filled_below N P net (k + s)) before.none in
    record {
      same = ap (placed_after N P net) (sym e) ∙ (before.none ∙ before.same);
      none = subst (λ (m : ℕ). placed_after N P net (suc m) ≡ placed_after N P net m) e (ap (stripe N P net (suc (k + s))) before.none ∙ (next ∙ sym before.none));
    }

same_number : (N P : ℕ) (net : NetShape) (a b : ℕ) (x : IsNoFit N P net a) (y : IsNoFit N P net b) → x.stuck ≤ y.stuck → a ≡ b
same_number N P net a b x y le =
    let k = y.stuck - x.stuck in
    let e : k + x.stuck ≡ y.stuck = omega (arith, le) in
    let same : placed_after N P net y.stuck ≡ placed_after N P net x.stuck = ap (placed_after N P net) (sym e) ∙ (stays N P net x.stuck k x.none).same in
    let both : Some x.group ≡ Some y.group = sym x.least ∙ (ap (λ (ps : List Seat). find (λ g. not (is_placed ps g)) (groups_in net)) (sym same) ∙ y.least) in
    let one : x.group ≡ y.group = cc in
    x.is ∙ (ap (number_of_group net) one ∙ sym y.is)

pub one_no_fit : (N P : ℕ) (net : NetShape) (a b : ℕ) → IsNoFit N P net a → IsNoFit N P net b → a ≡ b
one_no_fit N P net a b x y = elim (cases_order x.stuck y.stuck) [
  | inl e ↦ same_number N P net a b x y (omega (arith, e))
  | inr (inl l) ↦ same_number N P net a b x y (omega (arith, l))
  | inr (inr l) ↦ sym (same_number N P net b a y x (omega (arith, l)))
]
