-- An offer, a take, what the store tells, and the beginning.
use Rattle.std.proofs.Common.{◌≡◌, ℕ, zero, suc, ◌+◌, ◌-◌, ◌<◌, ◌≤◌, ltb, List, [], ◌∷◌, ◌++◌, length, take, drop, map, refl, sym, ap, ap₂, ◌∙◌, subst, arith, Option, Some, None, slice_get, length-drop}
use Rattle.std.proofs.lemmas.Bool.{cond-true, cond-false, lt-ltb, le-ltb}
use Rattle.std.proofs.lemmas.List.{drop-append-le, drop-drop, take-map}
use Rattle.std.proofs.Math.Nat.{zero-sub}
use Rattle.pr_control.specs.Time.{occupant}
use Rattle.pr_control.proofs.TimeLaws.{occupant_zero}
use Rattle.pr_conf_pipeline.specs.Rows.{Step, rows, through}
use Rattle.pr_conf_pipeline.proofs.RowLaws.{rows_more}
use Rattle.pr_machine_account.specs.Account.{Account, Offer, Take, left, after, start, IsLawful, IsEntries}
use Rattle.pr_machine_account.specs.Flow.{state_at}
use Rattle.pr_machine_account.proofs.AccountLaws.{done_below, done-nil}
use Rattle.pr_machine_account.proofs.FlowLaws.{state_offered, read_offered, state_start, below_few}
use Rattle.pr_machine_refines.specs.Spots.{Spot, Bare, Held}
use Rattle.pr_machine_refines.proofs.Fits.{spot_for, Fits, StandsAt}
use Rattle.pr_machine_refines.proofs.Entering.{get_drop}

left_inside : {R : Type 0} (v p : ℕ) (a : Account R) → IsLawful v p a → left v a ≤ length a.offered
left_inside v p a h = let d = done_below (v - 1) a.time a.entries in let b = below_few (a.time - (v - 1)) a.entries in let f = h.few in omega arith

-- ---- an offer
spot_offered : {S R : Type 0} (M : ℕ → Step S R) (v p n t : ℕ) (xs ys : List R) (es : List ℕ) (o : Option ℕ) → IsEntries v p n es → length es ≤ length xs → spot_for M (xs ++ ys) es t o ≡ spot_for M xs es t o
spot_offered M v p n t xs ys es None h l = refl
spot_offered M v p n t xs ys es (Some s) h l = ap₂ (Held s) (state_offered M xs ys es s (t - s) l) (read_offered M xs ys es v p n (suc s) (t - suc s) h l)

fits_offered : {S R : Type 0} (M : ℕ → Step S R) (v p t : ℕ) (xs ys : List R) (es : List ℕ) (spots : ℕ → Spot S R) (store : ℕ → S) → IsEntries v p t es → length es ≤ length xs → Fits M v p t xs es spots store → Fits M v p t (xs ++ ys) es spots store
fits_offered M v p t xs ys es spots store h l f = record {
  each = λ i hi. f.each i hi ∙ sym (spot_offered M v p t t xs ys es (occupant v p i t) h l);
  rows = λ s hs k. f.rows s hs k ∙ sym (state_offered M xs ys es s (t - s) l);
}

-- what is offered later changes no result that left
results_more : {S R B : Type 0} (M : ℕ → Step S R) (tap : R → B) (v l : ℕ) (xs ys : List R) → l ≤ length xs → take l (through M v tap (xs ++ ys)) ≡ take l (through M v tap xs)
results_more M tap v l xs ys h = take-map tap l (rows M v (xs ++ ys)) ∙ (ap (map tap) (rows_more M v l xs ys h) ∙ sym (take-map tap l (rows M v xs)))

pub offered_room : {S R B : Type 0} (M : ℕ → Step S R) (tap : R → B) (v p : ℕ) (spots : ℕ → Spot S R) (store : ℕ → S) (t come gone : ℕ) (waiting : List R) (ready : List B) (x : R) (a : Account R) → IsLawful v p a → length waiting < 16
    → StandsAt M tap v p spots store t come gone waiting ready a → StandsAt M tap v p spots store t come gone (waiting ++ x ∷ []) ready (after v p a (Offer x))
offered_room M tap v p spots store t come gone waiting ready x a h r st =
    let n = ap length st.input ∙ length-drop (length a.entries) a.offered in
    let e = cond-true (ltb (length a.offered - length a.entries) 16) (record a { offered = a.offered ++ x ∷ [] }) a (lt-ltb (length a.offered - length a.entries) 16 (omega arith)) in
    let i = left_inside v p a h in
    subst (StandsAt M tap v p spots store t come gone (waiting ++ x ∷ []) ready) (sym e) (record {
      time = st.time;
      come = st.come;
      went = st.went;
      input = ap (λ w. w ++ x ∷ []) st.input ∙ sym (drop-append-le (length a.entries) a.offered (x ∷ []) h.few);
      output = st.output ∙ ap (drop a.taken) (sym (results_more M tap v (left v a) a.offered (x ∷ []) i));
      fits = fits_offered M v p a.time a.offered (x ∷ []) a.entries spots store h.entries h.few st.fits;
    })

pub offered_full : {S R B : Type 0} (M : ℕ → Step S R) (tap : R → B) (v p : ℕ) (spots : ℕ → Spot S R) (store : ℕ → S) (t come gone : ℕ) (waiting : List R) (ready : List B) (x : R) (a : Account R) → length waiting ≡ 16
    → StandsAt M tap v p spots store t come gone waiting ready a → StandsAt M tap v p spots store t come gone waiting ready (after v p a (Offer x))
offered_full M tap v p spots store t come gone waiting ready x a r st =
    let n = ap length st.input ∙ length-drop (length a.entries) a.offered in
    let e = cond-false (ltb (length a.offered - length a.entries) 16) (record a { offered = a.offered ++ x ∷ [] }) a (le-ltb (length a.offered - length a.entries) 16 (omega arith)) in
    subst (StandsAt M tap v p spots store t come gone waiting ready) (sym e) st

-- ---- a take
get_taken : {B : Type 0} (xs : List B) (l i : ℕ) → i < l → slice_get (take l xs) i ≡ slice_get xs i
get_taken [] zero i h = absurd (omega arith)
get_taken [] (suc l) i h = refl
get_taken (x ∷ xs) zero i h = absurd (omega arith)
get_taken (x ∷ xs) (suc l) zero h = refl
get_taken (x ∷ xs) (suc l) (suc i) h = get_taken xs l i (omega arith)

head_of : {B : Type 0} (r : B) (rest xs : List B) → xs ≡ r ∷ rest → slice_get xs 0 ≡ Some r
head_of r rest xs e = ap (λ z. slice_get z 0) e

tail_of : {B : Type 0} (r : B) (rest xs : List B) → xs ≡ r ∷ rest → rest ≡ drop 1 xs
tail_of r rest xs e = sym (ap (drop 1) e)

pub taken_one : {S R B : Type 0} (M : ℕ → Step S R) (tap : R → B) (v p : ℕ) (spots : ℕ → Spot S R) (store : ℕ → S) (t come gone : ℕ) (waiting : List R) (ready rest : List B) (r : B) (a : Account R) → IsLawful v p a → ready ≡ r ∷ rest → length ready ≡ left v a - a.taken
    → StandsAt M tap v p spots store t come gone waiting ready a → StandsAt M tap v p spots store t come gone waiting rest (after v p a Take)
taken_one M tap v p spots store t come gone waiting ready rest r a h e n st =
    let some : 0 < length ready = (let z = ap length e in omega arith) in
    let l : a.taken < left v a = omega arith in
    subst (StandsAt M tap v p spots store t come gone waiting rest) (sym (cond-true (ltb a.taken (left v a)) (record a { taken = a.taken + 1 }) a (lt-ltb a.taken (left v a) l))) (record {
      time = st.time;
      come = st.come;
      went = st.went;
      input = st.input;
      output = tail_of r rest ready e ∙ (ap (drop 1) st.output ∙ drop-drop 1 a.taken (take (left v a) (through M v tap a.offered)));
      fits = st.fits;
    })

pub taken_none : {S R B : Type 0} (M : ℕ → Step S R) (tap : R → B) (v p : ℕ) (spots : ℕ → Spot S R) (store : ℕ → S) (t come gone : ℕ) (waiting : List R) (ready : List B) (a : Account R) → ready ≡ [] → length ready ≡ left v a - a.taken
    → StandsAt M tap v p spots store t come gone waiting ready a → StandsAt M tap v p spots store t come gone waiting ready (after v p a Take)
taken_none M tap v p spots store t come gone waiting ready a e n st =
    let g : left v a ≤ a.taken = (let z = ap length e in omega arith) in
    subst (StandsAt M tap v p spots store t come gone waiting ready) (sym (cond-false (ltb a.taken (left v a)) (record a { taken = a.taken + 1 }) a (le-ltb a.taken (left v a) g))) st

-- the result that is taken
pub taken_is : {S R B : Type 0} (M : ℕ → Step S R) (tap : R → B) (v p : ℕ) (spots : ℕ → Spot S R) (store : ℕ → S) (t come gone : ℕ) (waiting : List R) (ready rest : List B) (r : B) (a : Account R) → ready ≡ r ∷ rest → length ready ≡ left v a - a.taken
    → StandsAt M tap v p spots store t come gone waiting ready a → slice_get (through M v tap a.offered) a.taken ≡ Some r
taken_is M tap v p spots store t come gone waiting ready rest r a e n st =
    let l : a.taken < left v a = (let z = ap length e in omega arith) in
    sym (get_taken (through M v tap a.offered) (left v a) a.taken l) ∙ (sym (get_drop a.taken (take (left v a) (through M v tap a.offered))) ∙ (ap (λ x. slice_get x 0) (sym st.output) ∙ head_of r rest ready e))

-- ---- the beginning
pub stands_start : {S R B : Type 0} (M : ℕ → Step S R) (tap : R → B) (v p : ℕ) (spots : ℕ → Spot S R) (store : ℕ → S) → ((i : ℕ) → i < p → spots i ≡ Bare None) → ((s : ℕ) → s < v → store s ≡ (M s).init)
    → StandsAt M tap v p spots store 0 0 0 [] [] start
stands_start M tap v p spots store b f = record {
  time = refl;
  come = refl;
  went = sym (done-nil (v - 1) 0);
  input = refl;
  output = ap (λ n. take n (through M v tap [])) (sym (done-nil (v - 1) 0));
  fits = record {
    each = λ i hi. b i hi ∙ ap (spot_for M [] [] 0) (sym (occupant_zero v p i));
    rows = λ s hs k. f s hs ∙ sym (ap (state_at M [] [] s) (zero-sub s) ∙ state_start M [] [] s);
  };
}
