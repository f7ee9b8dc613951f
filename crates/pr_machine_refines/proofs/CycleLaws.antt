-- One cycle on: each stripe, and each row of the store.
use Rattle.std.proofs.Common.{◌≡◌, ℕ, zero, suc, ◌+◌, ◌-◌, ◌<◌, false, eqb, List, refl, sym, ap, ap₂, ◌∙◌, subst, arith, inl, inr, Option, Some, None, ◌⊎◌}
use Rattle.std.proofs.lemmas.Bool.{cases_eq, false_from_ne_true, cond-true, cond-false, eq-eqb, ne_eqb}
use Rattle.pr_control.specs.Time.{event, occupant, spares, before, turn}
use Rattle.pr_control.proofs.Round.{before_below}
use Rattle.pr_control.proofs.TimeLaws.{occupant_hit, occupant_other, occupant_still}
use Rattle.pr_control.proofs.Residence.{in_range, feeder, absent, active}
use Rattle.pr_conf_pipeline.specs.Rows.{Step}
use Rattle.pr_machine_account.specs.Account.{enters, IsEntries}
use Rattle.pr_machine_account.specs.Flow.{state_at, read_at, state_with, row_with, input_of}
use Rattle.pr_machine_account.proofs.FlowLaws.{read_next, state_next, read_none, state_same}
use Rattle.pr_machine_refines.specs.Spots.{Spot, Held, shows, stepped, saved}
use Rattle.pr_machine_refines.specs.Cycle.{IsTurnover, IsQuiet}
use Rattle.pr_machine_refines.proofs.Fits.{spot_for, Fits}

pub cases_option : {A : Type 0} (o : Option A) → (o ≡ None) ⊎ ((s : A) × (o ≡ Some s))
cases_option None = inl refl
cases_option (Some s) = inr (s, refl)

no_some : {A : Type 0} (s : A) (o : Option A) → o ≡ None → o ≡ Some s → ⊥
no_some s o e f = let z = sym e ∙ f in cc

pub some_is : {A : Type 0} (a b : A) (o : Option A) → o ≡ Some a → o ≡ Some b → a ≡ b
some_is a b o e f = let z = sym e ∙ f in cc

spares_none : (o : Option (ℕ × ℕ)) (i : ℕ) → o ≡ None → spares o i
spares_none o i e = subst (λ x. spares x i) (sym e) tt

spares_some : (o : Option (ℕ × ℕ)) (m q i : ℕ) → o ≡ Some (m, q) → (i ≡ q → ⊥) → spares o i
spares_some o m q i e ne = subst (λ x. spares x i) (sym e) ne

hit_some : (o : Option (ℕ × ℕ)) (m q i : ℕ) → o ≡ Some (m, q) → spares o i → i ≡ q → ⊥
hit_some o m q i e h = subst (λ x. spares x i) e h

-- the store after a stripe without a stage was emptied, after one of another stage, and after the stage's own
saved_other : {S R : Type 0} (store : ℕ → S) (n : ℕ) (st : S) (row : Option R) (s : ℕ) → (s ≡ n → ⊥) → saved store (Held n st row) s ≡ store s
saved_other store n st row s ne = cond-false (eqb s n) st (store s) (ne_eqb s n ne)

saved_same : {S R : Type 0} (store : ℕ → S) (n : ℕ) (st : S) (row : Option R) (s : ℕ) → s ≡ n → saved store (Held n st row) s ≡ st
saved_same store n st row s e = cond-true (eqb s n) st (store s) (eq-eqb s n e)

-- a stage that computes, one cycle on
held_next : {S R : Type 0} (M : ℕ → Step S R) (v p n t s : ℕ) (xs : List R) (es : List ℕ) (bus row : Option R) → IsEntries v p n es → s < t → input_of s bus row ≡ read_at M xs es s (t - s)
    → stepped M bus (spot_for M xs es t (Some s)) row ≡ spot_for M xs es (t + 1) (Some s)
held_next M v p n t s xs es bus row entries hs hi =
    let a : t + 1 - suc s ≡ t - s = omega arith in
    let e1 : state_with (M s) (state_at M xs es s (t - s)) (input_of s bus row) ≡ state_at M xs es s (t + 1 - s)
    = ap (state_with (M s) (state_at M xs es s (t - s))) hi ∙ sym (state_next M xs es v p n s t entries) in
    let e2 : row_with (M s) (state_at M xs es s (t - s)) (input_of s bus row) ≡ read_at M xs es (suc s) (t + 1 - suc s)
    = ap (row_with (M s) (state_at M xs es s (t - s))) hi ∙ (sym (read_next M xs es s (t - s)) ∙ ap (read_at M xs es (suc s)) (sym a)) in
    ap₂ (Held s) e1 e2

-- a stage that does not compute stays as it is
pub still : (v p n t : ℕ) (es : List ℕ) (s : ℕ) → IsEntries v p n es → turn v p (t - s) ≡ false → enters (t - s) es ≡ false
still v p n t es s entries h = false_from_ne_true (enters (t - s) es) (λ e. let z = sym h ∙ entries.turns (t - s) e in cc)

module _ {S R : Type 0} (M : ℕ → Step S R) (v p t : ℕ) (xs : List R) (es : List ℕ) (n : ℕ) (entries : IsEntries v p n es) (some : 0 < v) (two : 0 < p) (bus : Option R) (old mid : ℕ → Spot S R) (store : ℕ → S)
    (fits : Fits M v p t xs es old store) (first : bus ≡ read_at M xs es 0 t)
    (step : (i : ℕ) → i < p → spares (event v p t) i → mid i ≡ stepped M bus (old i) (shows (old (before p i)))) where
  -- a stage reads what the stage before it showed, or the bus
  reads : (i s : ℕ) → i < p → spares (event v p t) i → occupant v p i t ≡ Some s → input_of s bus (shows (old (before p i))) ≡ read_at M xs es s (t - s)
  reads i zero hi a o = first ∙ ap (read_at M xs es 0) (let e : t ≡ t - 0 = omega arith in e)
  reads i (suc s) hi a o = ap shows (fits.each (before p i) (before_below p i hi) ∙ ap (spot_for M xs es t) (feeder v p i t s some hi a o))

  -- a place on which no event falls
  pub stays : (i : ℕ) → i < p → spares (event v p t) i → mid i ≡ spot_for M xs es (t + 1) (occupant v p i t)
  stays i hi a =
      let row = shows (old (before p i)) in
      elim (cases_option (occupant v p i t)) [
        | inl e ↦ step i hi a ∙ (ap (λ x. stepped M bus x row) (fits.each i hi ∙ ap (spot_for M xs es t) e) ∙ sym (ap (spot_for M xs es (t + 1)) e))
        | inr w ↦ step i hi a ∙ (ap (λ x. stepped M bus x row) (fits.each i hi ∙ ap (spot_for M xs es t) w.1)
            ∙ (held_next M v p n t w.0 xs es bus row entries (in_range v p i t w.0 some hi w.1).1 (reads i w.0 hi a w.1) ∙ sym (ap (spot_for M xs es (t + 1)) w.1)))
      ]

  -- a stage that computes nowhere
  state_stays : (s : ℕ) → s < v → ((i : ℕ) → i < p → occupant v p i t ≡ Some s → spares (event v p t) i → ⊥) → enters (t - s) es ≡ false
  state_stays s hs h = still v p n t es s entries (false_from_ne_true (turn v p (t - s)) (λ e. let w = active v p t s two hs e in h w.0 w.1 w.2 w.3))

  -- no event
  pub quiet : (new : ℕ → Spot S R) (store' : ℕ → S) → event v p t ≡ None → IsQuiet v mid new store store' → Fits M v p (t + 1) xs es new store'
  quiet new store' e k = record {
    each = λ i hi. k.spots i ∙ (stays i hi (spares_none _ i e) ∙ ap (spot_for M xs es (t + 1)) (sym (occupant_still v p i t e)));
    rows = λ s hs h.
        let out = λ (i : ℕ) (hi : i < p) (o : occupant v p i t ≡ Some s). h i hi (occupant_still v p i t e ∙ o) in
        k.rows s hs ∙ (fits.rows s hs out ∙ sym (state_same M xs es v p n s t entries (state_stays s hs (λ i hi o a. out i hi o))));
  }

  -- an event
  module _ (m q : ℕ) (new : ℕ → Spot S R) (store' : ℕ → S) (here : event v p t ≡ Some (m, q)) (inside : q < p) (known : m < v) (kept : mid q ≡ old q) (turned : IsTurnover v m q mid new store store') where
    -- the store's row of a stage that was in no stripe, or in the event's
    pub stored_now : (s : ℕ) → s < v → ((i : ℕ) → i < p → occupant v p i t ≡ Some s → i ≡ q) → store' s ≡ state_at M xs es s (t + 1 - s)
    stored_now s hs only =
        let idle = state_stays s hs (λ i hi o a. hit_some _ m q i here a (only i hi o)) in
        let same = state_same M xs es v p n s t entries idle in
        let is = turned.save s hs ∙ ap (λ x. saved store x s) (kept ∙ fits.each q inside) in
        is ∙ (elim (cases_option (occupant v p q t)) [
          | inl e ↦ ap (λ o. saved store (spot_for M xs es t o) s) e
              ∙ fits.rows s hs (λ i hi o. no_some s (occupant v p q t) e (subst (λ j. occupant v p j t ≡ Some s) (only i hi o) o))
          | inr w ↦ ap (λ o. saved store (spot_for M xs es t o) s) w.1 ∙ (elim (cases_eq s w.0) [
            | inl e ↦ saved_same store w.0 _ (read_at M xs es (suc w.0) (t - suc w.0)) s e ∙ ap (λ k. state_at M xs es k (t - k)) (sym e)
            | inr ne ↦ saved_other store w.0 _ (read_at M xs es (suc w.0) (t - suc w.0)) s ne
                ∙ fits.rows s hs (λ i hi o. ne (some_is s w.0 (occupant v p q t) (subst (λ j. occupant v p j t ≡ Some s) (only i hi o) o) w.1))
          ])
        ] ∙ sym same)

    pub moved : Fits M v p (t + 1) xs es new store'
    moved = record {
      each = λ i hi. elim (cases_eq i q) [
        | inl e ↦ ap new e ∙ (turned.armed
            ∙ (ap₂ (Held m) (stored_now m known (λ i hi o. absurd (absent v p i t m q hi here o)))
            (sym (read_none M xs es (suc m) (t + 1 - suc m) (let a : t + 1 - suc m ≡ t - m = omega arith in ap (λ x. enters x es) a ∙ state_stays m known (λ i hi o a. absent v p i t m q hi here o))))
            ∙ ap (spot_for M xs es (t + 1)) (sym (occupant_hit v p i t m q here e))))
        | inr ne ↦ turned.others i ne ∙ (stays i hi (spares_some _ m q i here ne) ∙ ap (spot_for M xs es (t + 1)) (sym (occupant_other v p i t m q here ne)))
      ];
      rows = λ s hs h. stored_now s hs (λ i hi o. elim (cases_eq i q) [ inl e ↦ e | inr ne ↦ absurd (h i hi (occupant_other v p i t m q here ne ∙ o)) ]);
    }
