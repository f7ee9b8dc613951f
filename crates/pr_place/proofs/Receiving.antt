-- The groups that a stripe has received.
use Rattle.std.proofs.Common.{◌≡◌, ◌≢◌, ℕ, ◌+◌, ◌<◌, ◌==◌, ◌&&◌, ◌||◌, Bool, true, false, not, nat_lt, List, [], ◌∷◌, ◌++◌, length, get_or, set, Some, if◌then◌else◌, refl, sym, ap, ◌∙◌, subst, inl, inr, arith, get_or-set_same, get_or-set_other, length-append}
use Rattle.std.specs.List.{Contains, list_any}
use Rattle.std.proofs.lemmas.Bool.{cases_eq, eq-eqb, eqb-true, ne_eqb, false≢true, false_from_ne_true}
use Rattle.std.proofs.lemmas.List.Elements.{Contains-append_cases, Contains-append_left, Contains-append_right, Contains-push, Contains-push_cases, Contains-get_or}
use Rattle.std.proofs.lemmas.List.Folds.{list_any-append}
use Rattle.std.proofs.lemmas.List.Sums.{sum_by_push}
use Rattle.pr_net.specs.Shape.{NetShape, units_of}
use Rattle.pr_net.specs.Nets.{IsNet}
use Rattle.pr_net.proofs.Lists.{any_here, any_found}
use Rattle.pr_place.specs.Greedy.{Seat, spots_of, is_placed, seats_from, is_ready, turn, least_column}
use Rattle.pr_place.proofs.Spots.{spot}
use Rattle.pr_place.proofs.Seats.{seat_at, seat_of_spot}
use Rattle.pr_place.proofs.Soundness.{spot_in}
use Rattle.pr_place.proofs.Tables.{turn_puts}
use Rattle.pr_place.proofs.Stages.{turn_less}
use Rattle.pr_place.specs.Waits.{wait_of, waits_of}
pub use Rattle.pr_place.specs.Opening.{reads_of, left_of, AreReady, Received}

-- a group that is placed is so from then on, and no other
pub placed_now : (N P : ℕ) (net : NetShape) (stage g col : ℕ) (placed : List Seat) → IsNet N net → g < length net.groups → is_placed (placed ++ seats_from P net placed stage g (spots_of net g) col) g ≡ true
placed_now N P net stage g col placed n l =
    let xs = spots_of net g in
    let u = get_or (units_of net g) 0 0 in
    let own = n.members g u l (Contains-get_or (units_of net g) 0 0 (n.some g l)) in
    let here : Contains xs (spot u 0) = subst (λ (k : ℕ). Contains (spots_of net k) (spot u 0)) own.1 (spot_in N net n u 0 (record { unit = own.0; place = n.filled u own.0 })) in
    let t = seat_of_spot P net placed stage g xs col here.0 here.1 in
    any_here (λ (k : Seat). k.group == g) (placed ++ seats_from P net placed stage g xs col) _ (Contains-append_right placed (seats_from P net placed stage g xs col) _ t) (eq-eqb g g refl)

pub others_placed : (P : ℕ) (net : NetShape) (stage g col q : ℕ) (placed : List Seat) → q ≢ g → is_placed (placed ++ seats_from P net placed stage g (spots_of net g) col) q ≡ is_placed placed q
others_placed P net stage g col q placed ne =
    let b = seats_from P net placed stage g (spots_of net g) col in
    let none : list_any (λ (k : Seat). k.group == q) b ≡ false = false_from_ne_true (list_any (λ (k : Seat). k.group == q) b) (λ y. (let f = any_found (λ (k : Seat). k.group == q) b y in let e : f.0.group ≡ g = ap (λ (k : Seat). k.group) (seat_at P net placed stage g (spots_of net g) col f.0 f.1).is in ne (sym (eqb-true f.0.group q f.2) ∙ e))) in
    list_any-append (λ (k : Seat). k.group == q) placed b ∙ ap (λ (c : Bool). is_placed placed q || c) none ∙ or_none (is_placed placed q)
  where
    or_none : (c : Bool) → (c || false) ≡ c
    or_none true = refl
    or_none false = refl

abbrev one_if : Bool → ℕ
one_if b = if b then 1 else 0

-- what waits for it waits no more
pub waits_less : (owner : List ℕ) (placed more : List Seat) (g : ℕ) (xs : List ℕ) → is_placed placed g ≡ false → is_placed more g ≡ true → ((q : ℕ) → q ≢ g → is_placed more q ≡ is_placed placed q)
    → waits_of owner placed xs ≡ waits_of owner more xs + reads_of owner g xs
waits_less owner placed more g [] old new same = refl
waits_less owner placed more g (x ∷ xs) old new same =
    let o = get_or owner x 0 in
    let ih = waits_less owner placed more g xs old new same in
    let own : wait_of (is_placed placed o) ≡ wait_of (is_placed more o) + one_if (o == g) = elim (cases_eq o g) [
      | inl e ↦
          (let a : wait_of (is_placed placed o) ≡ 1 = ap (λ (k : ℕ). wait_of (is_placed placed k)) e ∙ ap wait_of old in
          let b : wait_of (is_placed more o) ≡ 0 = ap (λ (k : ℕ). wait_of (is_placed more k)) e ∙ ap wait_of new in
          let c : one_if (o == g) ≡ 1 = ap one_if (eq-eqb o g e) in
          omega (arith, a, b, c))
      | inr ne ↦
          (let a : wait_of (is_placed more o) ≡ wait_of (is_placed placed o) = ap wait_of (same o ne) in
          let c : one_if (o == g) ≡ 0 = ap one_if (ne_eqb o g ne) in
          omega (arith, a, c))
    ] in
    omega (arith, ih, own)

-- no group is received yet
pub received_none : (net : NetShape) (class : List ℕ) (stage : ℕ) (start : List Seat) (before : List ℕ) → Received net class stage start start before before []
received_none net class stage start before = record {
  counted = λ owner xs. omega arith;
  left = omega arith;
  seats = λ t c. inl c;
  stays = λ t c. c;
  inside = λ g c. absurd (omega (arith, c.1));
  candidates = λ waits h. h;
}

-- a group is placed
pub received_more : (N P : ℕ) (net : NetShape) (class : List ℕ) (stage g col : ℕ) (start placed : List Seat) (before ready groups : List ℕ) → IsNet N net → g < length net.groups → g < length ready → is_placed placed g ≡ false → is_ready net placed stage g ≡ true → least_column N P net stage placed g ≡ Some col
    → Received net class stage start placed before ready groups
    → Received net class stage start (placed ++ seats_from P net placed stage g (spots_of net g) col) before (set ready g 255) (groups ++ g ∷ [])
received_more N P net class stage g col start placed before ready groups n l inside new able least h =
    let b = seats_from P net placed stage g (spots_of net g) col in
    let now = placed_now N P net stage g col placed n l in
    let same = λ (q : ℕ) (ne : q ≢ g). others_placed P net stage g col q placed ne in
    record {
      counted = λ owner xs.
          let e = h.counted owner xs in
          let w = waits_less owner placed (placed ++ b) g xs new now same in
          let p = sum_by_push (λ (k : ℕ). reads_of owner k xs) groups g in
          omega (arith, e, w, p);
      left = (
          let is : turn N P net stage placed g ≡ placed ++ b = turn_puts N P net stage placed g col new able least in
          let e = h.left in
          let p = length-append groups (g ∷ []) in
          elim (turn_less N P net stage placed g l) [
            | inl idle ↦ absurd (false≢true (sym new ∙ ap (λ (ps : List Seat). is_placed ps g) (sym idle ∙ is) ∙ now))
            | inr less ↦ (let w : left_of net placed ≡ left_of net (placed ++ b) + 1 = subst (λ (ps : List Seat). left_of net placed ≡ left_of net ps + 1) is less in omega (arith, e, w, p))
          ]
          );
      seats = λ t c. elim (Contains-append_cases placed b t c) [
        | inl old ↦ elim (h.seats t old) [ inl first ↦ inl first | inr (s, there) ↦ inr (s, Contains-append_left groups (g ∷ []) t.group there) ]
        | inr fresh ↦
            (let s = (seat_at P net placed stage g (spots_of net g) col t fresh).is in
            inr (ap (λ (k : Seat). k.stage) s, subst (λ (k : ℕ). Contains (groups ++ g ∷ []) k) (sym (ap (λ (k : Seat). k.group) s)) (Contains-push groups g)))
      ];
      stays = λ t c. Contains-append_left placed b t (h.stays t c);
      inside = λ q c. elim (Contains-push_cases groups g q c) [
        | inl old ↦ (let i = h.inside q old in (i.0, i.1, still q i.2))
        | inr e ↦ subst (λ (k : ℕ). (k < length net.groups) × (is_placed start k ≡ false) × (is_placed (placed ++ b) k ≡ true)) e (l, first, now)
      ];
      candidates = λ waits r. (let a = h.candidates waits r in record {
        ready_is = λ q lq. elim (cases_eq q g) [
          | inl e ↦
              (let at : get_or (set ready g 255) q 0 ≡ 255 = ap (λ (k : ℕ). get_or (set ready g 255) k 0) e ∙ get_or-set_same ready g 255 0 inside in
              let there : is_placed (placed ++ b) q ≡ true = ap (λ (k : ℕ). is_placed (placed ++ b) k) e ∙ now in
              ap (λ (k : ℕ). nat_lt k 64) at ∙ sym (ap (λ (c : Bool). not c && (get_or waits q 0 == 0)) there))
          | inr ne ↦ ap (λ (k : ℕ). nat_lt k 64) (get_or-set_other ready g q 255 0 ne) ∙ a.ready_is q lq ∙ sym (ap (λ (c : Bool). not c && (get_or waits q 0 == 0)) (same q ne))
        ];
        class_is = λ q lq small. elim (cases_eq q g) [
          | inl e ↦ absurd (let at : get_or (set ready g 255) q 0 ≡ 255 = ap (λ (k : ℕ). get_or (set ready g 255) k 0) e ∙ get_or-set_same ready g 255 0 inside in omega (arith, at, small))
          | inr ne ↦ (let at = get_or-set_other ready g q 255 0 ne in at ∙ a.class_is q lq (subst (λ (k : ℕ). k < 64) at small))
        ];
      });
    }
  where
    still : (q : ℕ) → is_placed placed q ≡ true → is_placed (placed ++ seats_from P net placed stage g (spots_of net g) col) q ≡ true
    still q y = let t = any_found (λ (k : Seat). k.group == q) placed y in any_here (λ (k : Seat). k.group == q) (placed ++ seats_from P net placed stage g (spots_of net g) col) t.0 (Contains-append_left placed _ t.0 t.1) t.2

    first : is_placed start g ≡ false
    first = false_from_ne_true (is_placed start g) (λ y. (let t = any_found (λ (k : Seat). k.group == g) start y in false≢true (sym new ∙ any_here (λ (k : Seat). k.group == g) placed t.0 (h.stays t.0 t.1) t.2)))
