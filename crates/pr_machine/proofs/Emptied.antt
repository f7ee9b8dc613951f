-- Stripes that are emptied into the store of a machine in which nothing is in flight: the store then has each stage's state after all samples.
use Rattle.std.proofs.Common.{◌≡◌, ℕ, zero, suc, ◌+◌, ◌-◌, ◌<◌, ◌≤◌, cond, Bool, true, false, eqb, List, [], length, refl, sym, ap, ◌∙◌, subst, arith, inl, inr, Option, Some, None, slice_get, below_more, eq-eqb, ap₂}
use Rattle.std.proofs.Math.ListN.{set}
use Rattle.std.proofs.lemmas.Bool.{eqb-true}
use Rattle.std.proofs.lemmas.List.{length-drop, nil_from_length, set-get_or}
use Rattle.std.proofs.lemmas.Option.{get_or_from_slice_get}
use Rattle.pr_conf.specs.Shape.{Shape}
use Rattle.pr_conf.specs.Rules.{bytes_in}
use Rattle.pr_conf.specs.Through.{output_widths}
use Rattle.pr_conf.specs.After.{with_states}
use Rattle.pr_queue.specs.Pieces.{Pieces}
use Rattle.pr_control.specs.Time.{occupant}
use Rattle.pr_control.specs.Residents.{Resides}
use Rattle.pr_control.proofs.ResidentLaws.{occupant_resides, resides_occupant, resides_inside}
use Rattle.pr_conf_pipeline.specs.Rows.{Step, state_after}
use Rattle.pr_machine_account.specs.Account.{Account, IsEntries, IsLawful, below, done, left}
use Rattle.pr_machine_account.proofs.AccountLaws.{done_below}
use Rattle.pr_machine_refines.specs.Spots.{Spot, Bare, Held, Gone, shows, stage_in, saved}
use Rattle.pr_machine_refines.specs.Stands.{IsStanding}
use Rattle.pr_machine.specs.Emptying.{IsEmptied}

-- a state that is put back where it was
pub stays : (store new : List (List ℕ)) (i j : ℕ) (st su : List ℕ) → slice_get store i ≡ Some st → new ≡ set store j su → j ≡ i → su ≡ st → new ≡ store
stays store new i j st su got put at same =
    put ∙ (ap₂ (set store) at (same ∙ sym (get_or_from_slice_get store i st [] got)) ∙ set-get_or store i [])

-- ---- one stripe more
module _ {S R : Type 0} (n : ℕ) (spots : ℕ → Spot S R) (s : ℕ) (was : S) (store : ℕ → S) (now : S) where
  -- the stripe does not hold the stage
  others : now ≡ store s → (stage_in (spots n) ≡ Some s → ⊥) → IsEmptied n spots s was (store s) → IsEmptied (n + 1) spots s was now
  others f away (inl h) = inl (f ∙ h.0, below_more (λ (i : ℕ). stage_in (spots i) ≡ Some s → ⊥) n h.1 away)
  others f away (inr h) = inr (h.0, omega (arith, h.1), subst (λ x. spots h.0 ≡ Held s x (shows (spots h.0))) (sym f) h.2)

  holding : (m : ℕ) (st : S) (row : Option R) (b : Bool) → spots n ≡ Held m st row → eqb s m ≡ b → now ≡ cond b st (store s) → IsEmptied n spots s was (store s) → IsEmptied (n + 1) spots s was now
  holding m st row true e t f h =
      let same : m ≡ s = sym (eqb-true s m t) in
      let shown : shows (spots n) ≡ row = ap shows e in
      inr (n, omega arith, e ∙ (ap (λ k. Held k st row) same ∙ (ap (λ x. Held s x row) (sym f) ∙ ap (λ r. Held s now r) (sym shown))))
  holding m st row false e t f h =
      let held : stage_in (spots n) ≡ Some m = ap stage_in e in
      others f (λ (is : stage_in (spots n) ≡ Some s). let same : s ≡ m = cc in let z = eq-eqb s m same in absurd (cc)) h

  by_spot : (spot : Spot S R) → spots n ≡ spot → now ≡ saved store spot s → IsEmptied n spots s was (store s) → IsEmptied (n + 1) spots s was now
  by_spot (Bare row) e f h = others f (λ (is : stage_in (spots n) ≡ Some s). let k : stage_in (spots n) ≡ None = ap stage_in e in cc) h
  by_spot (Held m st row) e f h = holding m st row (eqb s m) e refl f h
  by_spot Gone e f h = others f (λ (is : stage_in (spots n) ≡ Some s). let k : stage_in (spots n) ≡ None = ap stage_in e in cc) h

  pub emptied_more : now ≡ saved store (spots n) s → IsEmptied n spots s was (store s) → IsEmptied (n + 1) spots s was now
  emptied_more f h = by_spot (spots n) refl f h

-- ---- nothing is in flight
below_up : (v p t x d : ℕ) (es : List ℕ) → IsEntries v p t es → below x es ≤ below (x + d) es
below_up v p t x zero es e = let z : x + 0 ≡ x = omega arith in let k = ap (λ y. below y es) z in omega arith
below_up v p t x (suc d) es e =
    let z : x + suc d ≡ x + d + 1 = omega arith in
    let k = ap (λ y. below y es) z in
    let one = e.once (x + d) in
    let rest = below_up v p t x d es e in
    omega arith

module _ {S R B : Type 0} (M : ℕ → Step S R) (tap : R → B) (v p : ℕ) (spots : ℕ → Spot S R) (store : ℕ → S) (now came went : ℕ) (waiting : List R) (ready : List B) (a : Account R)
    (hp : 0 < p) (l : IsLawful v p a) (st : IsStanding M tap v p spots store now came went waiting ready a) (even : came ≡ went) (none : length waiting ≡ 0) where
  all_entered : length a.entries ≡ length a.offered
  all_entered = let k = ap length st.input ∙ length-drop (length a.entries) a.offered in omega (arith, l.few)

  -- every sample that was offered has left
  pub all_left : left v a ≡ length a.offered
  all_left = sym st.gone ∙ (sym even ∙ (st.entered ∙ all_entered))

  all_done : (s : ℕ) → s < v → done s a.time a.entries ≡ length a.offered
  all_done s h =
      let last = done_below (v - 1) a.time a.entries in
      let this = done_below s a.time a.entries in
      let low = below_up v p a.time (a.time - (v - 1)) (a.time - s - (a.time - (v - 1))) a.entries l.entries in
      let high = below_up v p a.time (a.time - s) (a.time - (a.time - s)) a.entries l.entries in
      let e1 : a.time - (v - 1) + (a.time - s - (a.time - (v - 1))) ≡ a.time - s = omega arith in
      let e2 : a.time - s + (a.time - (a.time - s)) ≡ a.time = omega arith in
      let k1 = ap (λ y. below y a.entries) e1 in
      let k2 = ap (λ y. below y a.entries) e2 in
      let total = l.entries.total in
      let gone = all_left in
      let entered = all_entered in
      omega arith

  state_is : (s : ℕ) → s < v → state_after M s (done s a.time a.entries) a.offered ≡ state_after M s (length a.offered) a.offered
  state_is s h = ap (λ j. state_after M s j a.offered) (all_done s h)

  in_place : (s i : ℕ) (row : S) (o : Option ℕ) → s < v → i < p → spots i ≡ Held s row (shows (spots i)) → occupant v p i a.time ≡ o → row ≡ state_after M s (length a.offered) a.offered
  in_place s i row None hs hi h e =
      let empty : spots i ≡ Bare None = st.blank i hi (λ m (q : Resides v p a.time m i). let k = resides_occupant v p i a.time m q in cc) in
      absurd (let k = sym h ∙ empty in cc)
  in_place s i row (Some m) hs hi h e =
      let here : spots i ≡ Held m (state_after M m (done m a.time a.entries) a.offered) (shows (spots i)) = st.resident m i (occupant_resides v p i a.time m e) in
      let both = sym h ∙ here in
      let stage : s ≡ m = cc in
      let state : row ≡ state_after M m (done m a.time a.entries) a.offered = cc in
      state ∙ (ap (λ n. state_after M n (done n a.time a.entries) a.offered) (sym stage) ∙ state_is s hs)

  -- what the store has of a stage once the stripes were emptied
  pub emptied_row : (s : ℕ) (row : S) → s < v → IsEmptied p spots s (store s) row → row ≡ state_after M s (length a.offered) a.offered
  emptied_row s row hs (inl h) =
      h.0 ∙ (st.away s hs (λ i (q : Resides v p a.time s i). h.1 i (resides_inside v p a.time s i hp q).1 (ap stage_in (st.resident s i q))) ∙ state_is s hs)
  emptied_row s row hs (inr h) = in_place s h.0 row (occupant v p h.0 a.time) hs h.1 h.2 refl

-- ---- what waits and what is written
pub nothing_waits : (queue : Pieces) (n m : ℕ) → queue.size ≡ n → length queue.waiting ≡ 0 → n ≡ m → queue ≡ record { size = m; waiting = [] }
nothing_waits queue n m size none same = λ i. record { size = (size ∙ same) i; waiting = nil_from_length queue.waiting none i }

pub bytes_stay : (old new : Shape) (states : ℕ → List ℕ) → new ≡ with_states old states → bytes_in (output_widths old) ≡ bytes_in (output_widths new)
bytes_stay old new states e = ap (λ (c : Shape). bytes_in (output_widths c)) (sym e)
