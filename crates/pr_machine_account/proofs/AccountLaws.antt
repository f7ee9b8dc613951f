-- Entries as lists of cycle numbers, and what holds of every account.
use Rattle.std.proofs.Common.{◌≡◌, ℕ, zero, suc, ◌+◌, ◌-◌, ◌<◌, ◌≤◌, Bool, true, false, cond, ◌&&◌, ◌||◌, ltb, eqb, List, [], ◌∷◌, ◌++◌, length, refl, sym, ap, ap₂, ◌∙◌, subst, arith, inl, inr, add-zero}
use Rattle.std.proofs.lemmas.Bool.{cases_lt, cases_order, lt-ltb, le-ltb, ne_eqb, eqb-true, eqb-false, cond_both, ltb-true, or_cases, or_from, false_from_ne_true}
use Rattle.std.proofs.lemmas.Bool.Decides.{nat_tests}
use Rattle.std.proofs.lemmas.List.Sums.{sum_by_push, sum_by-cons}
use Rattle.std.proofs.lemmas.List.Folds.{list_any-append}
use Rattle.std.proofs.lemmas.List.{length_push}
use Rattle.pr_control.specs.Time.{turn}
use Rattle.std.proofs.Math.Bool.{or-false}
use Rattle.pr_machine_account.specs.Account.{Event, Offer, Take, Cycle, Account, below, enters, done, left, entered, stalled, after, account_from, account, start, IsEntries, IsLawful}

pub below_push : (x e : ℕ) (es : List ℕ) → below x (es ++ e ∷ []) ≡ below x es + cond (ltb e x) 1 0
unfolding below
below_push x e es = sum_by_push (λ (y : ℕ). cond (ltb y x) 1 0) es e

pub enters_push : (x e : ℕ) (es : List ℕ) → enters x (es ++ e ∷ []) ≡ (enters x es || eqb e x)
unfolding enters
enters_push x e es = list_any-append (λ y. eqb y x) es (e ∷ []) ∙ ap (λ b. enters x es || b) (or-false (eqb e x))

pub done-cons : (s t e : ℕ) (es : List ℕ) → done s t (e ∷ es) ≡ cond (ltb (e + s) t) 1 0 + done s t es
unfolding done
done-cons s t e es = sum_by-cons (λ (y : ℕ). cond (ltb (y + s) t) 1 0) e es

pub below-cons : (x e : ℕ) (es : List ℕ) → below x (e ∷ es) ≡ cond (ltb e x) 1 0 + below x es
unfolding below
below-cons x e es = sum_by-cons (λ (y : ℕ). cond (ltb y x) 1 0) e es

same_test : (e s t : ℕ) → ltb (e + s) t ≡ ltb e (t - s)
same_test e s t = grind (arith, nat_tests)

pub done-nil : (s t : ℕ) → done s t [] ≡ 0
unfolding done
done-nil s t = refl

pub below-nil : (x : ℕ) → below x [] ≡ 0
unfolding below
below-nil x = refl

pub enters-nil : (x : ℕ) → enters x [] ≡ false
unfolding enters
enters-nil x = refl

pub enters-cons : (x e : ℕ) (es : List ℕ) → enters x (e ∷ es) ≡ (eqb e x || enters x es)
unfolding enters
enters-cons x e es = refl

-- how many a stage has done is how many entered before its place in the line
pub done_below : (s t : ℕ) (es : List ℕ) → done s t es ≡ below (t - s) es
done_below s t [] = done-nil s t ∙ sym (below-nil (t - s))
done_below s t (e ∷ es) = done-cons s t e es ∙ (ap₂ (λ b n. cond b 1 0 + n) (same_test e s t) (done_below s t es) ∙ sym (below-cons (t - s) e es))

pub below_zero : (es : List ℕ) → below 0 es ≡ 0
below_zero [] = below-nil 0
below_zero (e ∷ es) = below-cons 0 e es ∙ ap₂ (λ b n. cond b 1 0 + n) (le-ltb e 0 (omega arith)) (below_zero es)

pub turn_zero : (v p : ℕ) → turn v p 0 ≡ false
unfolding turn
turn_zero v p = refl

-- ---- entries
pub no_entries : (v p : ℕ) → IsEntries v p 0 []
no_entries v p = record {
  total = below-nil 0;
  turns = λ x h. absurd (let e = sym (enters-nil x) ∙ h in cc);
  once = λ x. below-nil (x + 1) ∙ (let e = below-nil x in let f = enters-nil x in rw (e, f) refl);
  past = λ x h. enters-nil x;
}

pub below_all : (v p t : ℕ) (es : List ℕ) → IsEntries v p t es → below (t + 1) es ≡ length es
below_all v p t es h = h.once t ∙ (ap (λ b. below t es + cond b 1 0) (h.past t (omega arith)) ∙ (add-zero (below t es) ∙ h.total))

pub entries_skip : (v p t : ℕ) (es : List ℕ) → IsEntries v p t es → IsEntries v p (t + 1) es
entries_skip v p t es h = record { total = below_all v p t es h; turns = h.turns; once = h.once; past = λ x k. h.past x (omega arith) }

-- a list of entries stays one as cycles go by
pub entries_later : (v p t d : ℕ) (es : List ℕ) → IsEntries v p t es → IsEntries v p (t + d) es
entries_later v p t zero es h = let e : t ≡ t + 0 = omega arith in subst (λ n. IsEntries v p n es) e h
entries_later v p t (suc d) es h = let e : t + d + 1 ≡ t + suc d = omega arith in subst (λ n. IsEntries v p n es) e (entries_skip v p (t + d) es (entries_later v p t d es h))

pub below_later : (v p t x : ℕ) (es : List ℕ) → IsEntries v p t es → t ≤ x → below x es ≡ length es
below_later v p t x es h l = let e : t + (x - t) ≡ x = omega arith in ap (λ n. below n es) (sym e) ∙ (entries_later v p t (x - t) es h).total

once_push : (v p t x : ℕ) (es : List ℕ) → IsEntries v p t es → below (x + 1) es + cond (ltb t (x + 1)) 1 0 ≡ (below x es + cond (ltb t x) 1 0) + cond (enters x es || eqb t x) 1 0
once_push v p t x es h = elim (cases_order t x) [
  | inl e ↦ (let a = h.past x (omega arith) in let b = h.once x in grind (arith, nat_tests))
  | inr o ↦ elim o [
    | inl l ↦ (let a = h.past x (omega arith) in let b = h.once x in grind (arith, nat_tests))
    | inr g ↦ (let b = h.once x in let c = le-ltb t (x + 1) (omega arith) in let d = le-ltb t x (omega arith) in let e = ne_eqb t x (λ q. omega arith) in grind (arith, nat_tests))
  ]
]

pub entries_push : (v p t : ℕ) (es : List ℕ) → IsEntries v p t es → turn v p t ≡ true → IsEntries v p (t + 1) (es ++ t ∷ [])
entries_push v p t es h k = record {
  total = below_push (t + 1) t es ∙ (ap₂ (λ n b. n + cond b 1 0) (below_all v p t es h) (lt-ltb t (t + 1) (omega arith)) ∙ sym (length_push es t));
  turns = λ x e. elim (or_cases (enters x es) (eqb t x) (sym (enters_push x t es) ∙ e)) [ inl l ↦ h.turns x l | inr r ↦ subst (λ y. turn v p y ≡ true) (eqb-true t x r) k ];
  once = λ x. below_push (x + 1) t es ∙ (once_push v p t x es h ∙ sym (ap₂ (λ n b. n + cond b 1 0) (below_push x t es) (enters_push x t es)));
  past = λ x l. enters_push x t es ∙ or_from (enters x es) (eqb t x) (h.past x (omega arith)) (ne_eqb t x (λ e. omega arith));
}

-- before its end a list of entries is as it was
pub below_same : (t x : ℕ) (es : List ℕ) → x ≤ t → below x (es ++ t ∷ []) ≡ below x es
below_same t x es h = below_push x t es ∙ (ap (λ b. below x es + cond b 1 0) (le-ltb t x h) ∙ add-zero (below x es))

pub enters_same : (t x : ℕ) (es : List ℕ) → x < t → enters x (es ++ t ∷ []) ≡ enters x es
enters_same t x es h = enters_push x t es ∙ (ap (λ b. enters x es || b) (ne_eqb t x (λ e. omega arith)) ∙ or-false (enters x es))

pub never_zero : (v p t : ℕ) (es : List ℕ) → IsEntries v p t es → enters 0 es ≡ false
never_zero v p t es h = false_from_ne_true (enters 0 es) (λ e. let z = sym (turn_zero v p) ∙ h.turns 0 e in cc)

-- what one more cycle does to the number that a stage has done
pub done_step : (v p n t s : ℕ) (es : List ℕ) → IsEntries v p n es → below (t + 1 - s) es ≡ below (t - s) es + cond (enters (t - s) es) 1 0
done_step v p n t s es h = elim (cases_lt t s) [
  | inl l ↦ (
      let a : t + 1 - s ≡ 0 = omega arith in
      let b : t - s ≡ 0 = omega arith in
      let z = never_zero v p n es h in
      rw (a, b, z) (sym (add-zero (below 0 es))))
  | inr g ↦ (let a : t + 1 - s ≡ (t - s) + 1 = omega arith in ap (λ x. below x es) a ∙ h.once (t - s))
]

entered_cases : (b c : Bool) (P : List ℕ → Type 0) (x y : List ℕ) → (b ≡ true → c ≡ true → P x) → P y → P (cond (b && c) x y)
entered_cases true true P x y f g = f refl refl
entered_cases true false P x y f g = g
entered_cases false c P x y f g = g

not_stalled : (b : Bool) (old taken new : ℕ) → new ≡ old + cond b 1 0 → old ≤ taken + 16 → (b && eqb (old - taken) 16) ≡ false → new ≤ taken + 16
not_stalled true old taken new e k f = let n = eqb-false (old - taken) 16 f in omega arith
not_stalled false old taken new e k f = omega arith

-- ---- every account is lawful
pub lawful_start : {R : Type 0} (v p : ℕ) → IsLawful {R = R} v p start
lawful_start {R} v p =
    let l : left {R = R} v start ≡ 0 = done-nil (v - 1) 0 in
    record { entries = no_entries v p; few = omega arith; waiting = omega arith; taken = omega arith; kept = omega (arith, l) }

-- the entries with the cycle's own, at the next cycle
pub lawful_entered : {R : Type 0} (v p : ℕ) (a : Account R) → IsLawful v p a → IsEntries v p (a.time + 1) (entered v p a) × (length (entered v p a) ≤ length a.offered) × (length a.entries ≤ length (entered v p a))
lawful_entered v p a h = entered_cases (turn v p a.time) (ltb (length a.entries) (length a.offered)) (λ b. IsEntries v p (a.time + 1) b × (length b ≤ length a.offered) × (length a.entries ≤ length b)) (a.entries ++ a.time ∷ []) a.entries
    (λ k l. (entries_push v p a.time a.entries h.entries k, (let n = length_push a.entries a.time in let m = ltb-true (length a.entries) (length a.offered) l in omega arith), (let n = length_push a.entries a.time in omega arith)))
    (entries_skip v p a.time a.entries h.entries, h.few, omega arith)

-- what each stage has done is not changed by the cycle's own entry
pub entered_below : {R : Type 0} (v p : ℕ) (a : Account R) (x : ℕ) → x ≤ a.time → below x (entered v p a) ≡ below x a.entries
entered_below v p a x h = entered_cases (turn v p a.time) (ltb (length a.entries) (length a.offered)) (λ b. below x b ≡ below x a.entries) (a.entries ++ a.time ∷ []) a.entries (λ k l. below_same a.time x a.entries h) refl

pub entered_enters : {R : Type 0} (v p : ℕ) (a : Account R) (x : ℕ) → x < a.time → enters x (entered v p a) ≡ enters x a.entries
entered_enters v p a x h = entered_cases (turn v p a.time) (ltb (length a.entries) (length a.offered)) (λ b. enters x b ≡ enters x a.entries) (a.entries ++ a.time ∷ []) a.entries (λ k l. enters_same a.time x a.entries h) refl

-- the results that left, one cycle on
pub left_step : {R : Type 0} (v p : ℕ) (a : Account R) → 0 < v → IsLawful v p a → done (v - 1) (a.time + 1) (entered v p a) ≡ left v a + cond (enters (a.time + 1 - v) (entered v p a)) 1 0
left_step v p a hv h =
    let w = lawful_entered v p a h in
    let e : a.time + 1 - v ≡ a.time - (v - 1) = omega arith in
    done_below (v - 1) (a.time + 1) (entered v p a) ∙ (done_step v p (a.time + 1) a.time (v - 1) (entered v p a) w.0
    ∙ ap₂ (λ n x. n + cond (enters x (entered v p a)) 1 0) (entered_below v p a (a.time - (v - 1)) (omega arith) ∙ sym (done_below (v - 1) a.time a.entries)) (sym e))

lawful_cycle : {R : Type 0} (v p : ℕ) (a : Account R) → 0 < v → IsLawful v p a → IsLawful v p (after v p a Cycle)
lawful_cycle v p a hv h =
    cond_both (stalled v p a) a (record a { entries = entered v p a; time = a.time + 1 }) (IsLawful v p) (λ e. h)
    (λ e.
    let w = lawful_entered v p a h in
    let l = left_step v p a hv h in
    let lt = h.taken in
    let lk = h.kept in
    let lw = h.waiting in
    record {
      entries = w.0;
      few = w.1;
      waiting = omega (arith, w.2);
      taken = omega (arith, l);
      kept = not_stalled (enters (a.time + 1 - v) (entered v p a)) (left v a) a.taken _ l h.kept e;
    })

lawful_offer : {R : Type 0} (v p : ℕ) (a : Account R) (x : R) → IsLawful v p a → IsLawful v p (after v p a (Offer x))
lawful_offer v p a x h =
    cond_both (ltb (length a.offered - length a.entries) 16) (record a { offered = a.offered ++ x ∷ [] }) a (IsLawful v p)
    (λ e. let n = length_push a.offered x in let l = ltb-true (length a.offered - length a.entries) 16 e in let f = h.few in
    record { entries = h.entries; few = omega arith; waiting = omega arith; taken = h.taken; kept = h.kept })
    (λ e. h)

lawful_take : {R : Type 0} (v p : ℕ) (a : Account R) → IsLawful v p a → IsLawful v p (after v p a Take)
lawful_take v p a h =
    cond_both (ltb a.taken (left v a)) (record a { taken = a.taken + 1 }) a (IsLawful v p)
    (λ e. let l = ltb-true a.taken (left v a) e in let k = h.kept in
    record { entries = h.entries; few = h.few; waiting = h.waiting; taken = omega arith; kept = omega arith })
    (λ e. h)

pub lawful_after : {R : Type 0} (v p : ℕ) (a : Account R) (e : Event R) → 0 < v → IsLawful v p a → IsLawful v p (after v p a e)
lawful_after v p a (Offer x) hv h = lawful_offer v p a x h
lawful_after v p a Take hv h = lawful_take v p a h
lawful_after v p a Cycle hv h = lawful_cycle v p a hv h

pub lawful_from : {R : Type 0} (v p : ℕ) (a : Account R) (es : List (Event R)) → 0 < v → IsLawful v p a → IsLawful v p (account_from v p a es)
lawful_from v p a [] hv h = h
lawful_from v p a (e ∷ es) hv h = lawful_from v p (after v p a e) es hv (lawful_after v p a e hv h)

pub lawful : {R : Type 0} (v p : ℕ) (h : List (Event R)) → 0 < v → IsLawful v p (account v p h)
unfolding account
lawful v p h hv = lawful_from v p start h hv (lawful_start v p)

from_push : {R : Type 0} (v p : ℕ) (a : Account R) (es : List (Event R)) (e : Event R) → account_from v p a (es ++ e ∷ []) ≡ after v p (account_from v p a es) e
from_push v p a [] e = refl
from_push v p a (x ∷ es) e = from_push v p (after v p a x) es e

-- one more event
pub account_push : {R : Type 0} (v p : ℕ) (h : List (Event R)) (e : Event R) → account v p (h ++ e ∷ []) ≡ after v p (account v p h) e
unfolding account
account_push v p h e = from_push v p start h e

pub from_append : {R : Type 0} (v p : ℕ) (a : Account R) (es fs : List (Event R)) → account_from v p a (es ++ fs) ≡ account_from v p (account_from v p a es) fs
from_append v p a [] fs = refl
from_append v p a (e ∷ es) fs = from_append v p (after v p a e) es fs

-- a history that goes on
pub account-append : {R : Type 0} (v p : ℕ) (h es : List (Event R)) → account v p (h ++ es) ≡ account_from v p (account v p h) es
unfolding account
account-append v p h es = from_append v p start h es
