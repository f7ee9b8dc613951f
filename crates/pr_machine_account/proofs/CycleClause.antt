-- The clause on cycles in plain words holds of every account.
use Rattle.std.proofs.Common.{◌≡◌, ℕ, zero, suc, ◌+◌, ◌-◌, ◌<◌, true, ◌&&◌, ltb, eqb, List, [], ◌∷◌, ◌++◌, length, sym, ap, ◌∙◌, subst, arith, inl, inr, slice_index_or}
use Rattle.std.specs.Prelude.{Contains}
use Rattle.std.proofs.lemmas.Bool.{cases_lt, cases_Bool, cond-true, cond-false, lt-ltb, ltb-true, and_from, and_parts, or_cases, or_left, or_right, eq-eqb, eqb-true}
use Rattle.pr_control.specs.Time.{turn}
use Rattle.pr_control.proofs.ResidentLaws.{turn_active, active_turn}
use Rattle.pr_machine_account.specs.Account.{Account, enters, left, entered, stalled, IsLawful}
use Rattle.pr_machine_account.specs.Cycles.{IsHeld, IsCycle}
use Rattle.pr_machine_account.proofs.AccountLaws.{enters-nil, enters-cons, never_zero, lawful_entered}

-- ---- entries by place and by test
entry_at : (x : ℕ) (es : List ℕ) (k : ℕ) → k < length es → slice_index_or es k x ≡ x → enters x es ≡ true
entry_at x [] k h e = absurd (omega arith)
entry_at x (y ∷ es) zero h e = enters-cons x y es ∙ or_left (eqb y x) (enters x es) (eq-eqb y x e)
entry_at x (y ∷ es) (suc k) h e = enters-cons x y es ∙ or_right (eqb y x) (enters x es) (entry_at x es k (omega arith) e)

pub entry_enters : (x : ℕ) (es : List ℕ) → Contains es x → enters x es ≡ true
entry_enters x es c = entry_at x es c.0 c.1 c.2

pub enters_entry : (x : ℕ) (es : List ℕ) → enters x es ≡ true → Contains es x
enters_entry x [] h = absurd (let z = sym (enters-nil x) ∙ h in cc)
enters_entry x (y ∷ es) h = elim (or_cases (eqb y x) (enters x es) (sym (enters-cons x y es) ∙ h)) [
  | inl l ↦ (0, omega arith, eqb-true y x l)
  | inr r ↦ (let c = enters_entry x es r in (suc c.0, (let l = c.1 in omega arith), c.2))
]

-- ---- who enters
entered_new : {R : Type 0} (v p : ℕ) (a : Account R) → turn v p a.time ≡ true → length a.entries < length a.offered → entered v p a ≡ a.entries ++ a.time ∷ []
entered_new v p a h l = cond-true (turn v p a.time && ltb (length a.entries) (length a.offered)) _ _ (and_from (turn v p a.time) (ltb (length a.entries) (length a.offered)) h (lt-ltb (length a.entries) (length a.offered) l))

entered_old : {R : Type 0} (v p : ℕ) (a : Account R) → (turn v p a.time ≡ true → length a.entries < length a.offered → ⊥) → entered v p a ≡ a.entries
entered_old v p a h = elim (cases_Bool (turn v p a.time && ltb (length a.entries) (length a.offered))) [
  | inl e ↦ absurd (let w = and_parts (turn v p a.time) (ltb (length a.entries) (length a.offered)) e in h w.0 (ltb-true (length a.entries) (length a.offered) w.1))
  | inr e ↦ cond-false (turn v p a.time && ltb (length a.entries) (length a.offered)) _ _ e
]

-- ---- who is held
held_stalls : {R : Type 0} (v p : ℕ) (a : Account R) → IsHeld v p a → stalled v p a ≡ true
held_stalls v p a h =
    let l = h.leaves_now in
    let e : h.entry ≡ a.time + 1 - v = omega arith in
    and_from (enters (a.time + 1 - v) (entered v p a)) (eqb (left v a - a.taken) 16)
    (subst (λ x. enters x (entered v p a) ≡ true) e (entry_enters h.entry (entered v p a) h.entered_then))
    (eq-eqb (left v a - a.taken) 16 h.full)

stalled_held : {R : Type 0} (v p : ℕ) (a : Account R) → IsLawful v p a → stalled v p a ≡ true → IsHeld v p a
stalled_held v p a h s =
    let w = and_parts (enters (a.time + 1 - v) (entered v p a)) (eqb (left v a - a.taken) 16) s in
    let n = never_zero v p (a.time + 1) (entered v p a) (lawful_entered v p a h).0 in
    record {
      entry = a.time + 1 - v;
      entered_then = enters_entry (a.time + 1 - v) (entered v p a) w.0;
      leaves_now = elim (cases_lt (a.time + 1) v) [
        | inl l ↦ absurd (
            let z : a.time + 1 - v ≡ 0 = omega arith in
            let y = sym (ap (λ x. enters x (entered v p a)) z) ∙ w.0 in
            let x = sym n ∙ y in cc)
        | inr g ↦ omega arith
      ];
      full = eqb-true (left v a - a.taken) 16 w.1;
    }

pub cycle_is : {R : Type 0} (v p : ℕ) (a : Account R) → 0 < v → 0 < p → IsLawful v p a → IsCycle v p a
cycle_is v p a hv hp h = record {
  enters = λ c l. entered_new v p a (active_turn v p a.time hp c) l;
  none_enters = λ f. entered_old v p a (λ e l. f (turn_active v p a.time hp hv e) l);
  stalls = λ k. cond-true (stalled v p a) _ _ (held_stalls v p a k);
  advances = λ f. elim (cases_Bool (stalled v p a)) [
    | inl e ↦ absurd (f (stalled_held v p a h e))
    | inr e ↦ cond-false (stalled v p a) _ _ e
  ];
}
