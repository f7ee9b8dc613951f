-- What stands by stages is what fits by stripes.
use Rattle.std.proofs.Common.{◌≡◌, ℕ, suc, ◌+◌, ◌-◌, ◌<◌, List, sym, ap, ap₂, ◌∙◌, arith, inl, inr, Some, None, slice_get}
use Rattle.std.proofs.lemmas.Bool.{cases_Bool, false_from_ne_true}
use Rattle.pr_control.specs.Time.{occupant}
use Rattle.pr_control.specs.Residents.{Resides}
use Rattle.pr_control.proofs.Residence.{in_range}
use Rattle.pr_control.proofs.ResidentLaws.{occupant_resides, resides_occupant, resides_inside}
use Rattle.pr_conf_pipeline.specs.Rows.{Step, rows, state_after}
use Rattle.pr_machine_account.specs.Account.{Account, done, enters}
use Rattle.pr_machine_account.specs.Flow.{state_at, read_at}
use Rattle.pr_machine_account.proofs.AccountLaws.{done_below}
use Rattle.pr_machine_account.proofs.FlowLaws.{read_none}
use Rattle.pr_machine_refines.specs.Spots.{Spot, Held, shows}
use Rattle.pr_machine_refines.specs.Stands.{IsStanding, IsRowOf}
use Rattle.pr_machine_refines.proofs.Fits.{spot_for, StandsAt}
use Rattle.pr_machine_refines.proofs.CycleLaws.{cases_option}
use Rattle.pr_machine_refines.proofs.StandsLaws.{read_some}
use Rattle.pr_machine_refines.proofs.Numbered.{IsNumbered, entry_enters, enters_entry}

state_done : {S R : Type 0} (M : ℕ → Step S R) (xs : List R) (es : List ℕ) (s t : ℕ) → state_at M xs es s (t - s) ≡ state_after M s (done s t es) xs
unfolding state_at
state_done M xs es s t = ap (λ j. state_after M s j xs) (sym (done_below s t es))

-- what is shown where sample j entered s + 1 cycles before, and where none did
shown_at : {S R : Type 0} (M : ℕ → Step S R) (xs : List R) (es : List ℕ) (s t j e : ℕ) → IsNumbered es → slice_get es j ≡ Some e → e + s + 1 ≡ t → read_at M xs es (suc s) (t - suc s) ≡ slice_get (rows M (suc s) xs) j
shown_at M xs es s t j e n g q =
    let x : t - suc s ≡ e = omega arith in
    ap (read_at M xs es (suc s)) x ∙ (read_some M xs (suc s) e es (entry_enters es j e g) ∙ ap (slice_get (rows M (suc s) xs)) (n.number j e g))

none_at : {S R : Type 0} (M : ℕ → Step S R) (xs : List R) (es : List ℕ) (s t : ℕ) → s < t → ((j e : ℕ) → slice_get es j ≡ Some e → e + s + 1 ≡ t → ⊥) → read_at M xs es (suc s) (t - suc s) ≡ None
none_at M xs es s t h none =
    read_none M xs es (suc s) (t - suc s) (false_from_ne_true (enters (t - suc s) es) (λ on. let w = enters_entry es (t - suc s) on in none w.0 (t - suc s) w.1 (omega arith)))

module _ {S R B : Type 0} (M : ℕ → Step S R) (tap : R → B) (v p : ℕ) (spots : ℕ → Spot S R) (store : ℕ → S) (now came went : ℕ) (waiting : List R) (ready : List B) (a : Account R) (hv : 0 < v) (hp : 0 < p) (n : IsNumbered a.entries) where
  pub standing_of : StandsAt M tap v p spots store now came went waiting ready a → IsStanding M tap v p spots store now came went waiting ready a
  standing_of st =
      let at = λ (s i : ℕ) (r : Resides v p a.time s i).
      st.fits.each i (resides_inside v p a.time s i hp r).1 ∙ ap (spot_for M a.offered a.entries a.time) (resides_occupant v p i a.time s r) in
      record {
        time = st.time;
        entered = st.come;
        gone = st.went;
        input = st.input;
        output = st.output;
        resident = λ s i r. at s i r ∙ ap₂ (Held s) (state_done M a.offered a.entries s a.time) (sym (ap shows (at s i r)));
        away = λ s hs h. st.fits.rows s hs (λ i hi o. h i (occupant_resides v p i a.time s o)) ∙ state_done M a.offered a.entries s a.time;
        row = λ s i j e r g q. ap shows (at s i r) ∙ shown_at M a.offered a.entries s a.time j e n g q;
        bubble = λ s i r none. ap shows (at s i r)
            ∙ none_at M a.offered a.entries s a.time (in_range v p i a.time s hv (resides_inside v p a.time s i hp r).1 (resides_occupant v p i a.time s r)).1 none;
        blank = λ i hi h. elim (cases_option (occupant v p i a.time)) [
          | inl e ↦ st.fits.each i hi ∙ ap (spot_for M a.offered a.entries a.time) e
          | inr w ↦ absurd (h w.0 (occupant_resides v p i a.time w.0 w.1))
        ];
      }

  shown_is : IsStanding M tap v p spots store now came went waiting ready a → (s i : ℕ) → s < a.time → Resides v p a.time s i → shows (spots i) ≡ read_at M a.offered a.entries (suc s) (a.time - suc s)
  shown_is st s i hs r = elim (cases_Bool (enters (a.time - suc s) a.entries)) [
    | inl on ↦ (
        let w = enters_entry a.entries (a.time - suc s) on in
        let q : a.time - suc s + s + 1 ≡ a.time = omega arith in
        st.row s i w.0 (a.time - suc s) r w.1 q ∙ sym (shown_at M a.offered a.entries s a.time w.0 (a.time - suc s) n w.1 q))
    | inr off ↦ (
        st.bubble s i r (λ j e g q. let x : e ≡ a.time - suc s = omega arith in let on = entry_enters a.entries j e g in let z = sym on ∙ (ap (λ y. enters y a.entries) x ∙ off) in cc)
        ∙ sym (read_none M a.offered a.entries (suc s) (a.time - suc s) off))
  ]

  pub stands_of : IsStanding M tap v p spots store now came went waiting ready a → StandsAt M tap v p spots store now came went waiting ready a
  stands_of st = record {
    time = st.time;
    come = st.entered;
    went = st.gone;
    input = st.input;
    output = st.output;
    fits = record {
      each = λ i hi. elim (cases_option (occupant v p i a.time)) [
        | inl e ↦ st.blank i hi (λ s r. let z = sym e ∙ resides_occupant v p i a.time s r in cc) ∙ ap (spot_for M a.offered a.entries a.time) (sym e)
        | inr w ↦ (
            let r = occupant_resides v p i a.time w.0 w.1 in
            let hs = (in_range v p i a.time w.0 hv hi w.1).1 in
            st.resident w.0 i r ∙ (ap₂ (Held w.0) (sym (state_done M a.offered a.entries w.0 a.time)) (shown_is st w.0 i hs r) ∙ ap (spot_for M a.offered a.entries a.time) (sym w.1)))
      ];
      rows = λ s hs h. st.away s hs (λ i r. h i (resides_inside v p a.time s i hp r).1 (resides_occupant v p i a.time s r)) ∙ sym (state_done M a.offered a.entries s a.time);
    };
  }

-- a stripe that shows a row holds a stage, and it is the stage's row of a sample
module _ {S R B : Type 0} (M : ℕ → Step S R) (tap : R → B) (v p : ℕ) (spots : ℕ → Spot S R) (store : ℕ → S) (now came went : ℕ) (waiting : List R) (ready : List B) (a : Account R) (hv : 0 < v)
    (st : IsStanding M tap v p spots store now came went waiting ready a) where
  pub row_of : (i : ℕ) (x : R) → i < p → shows (spots i) ≡ Some x → IsRowOf M v p a i x
  row_of i x hi e = elim (cases_option (occupant v p i a.time)) [
    | inl none ↦ absurd (let z = sym e ∙ ap shows (st.blank i hi (λ s r. let y = sym none ∙ resides_occupant v p i a.time s r in cc)) in cc)
    | inr w ↦ (
        let r = occupant_resides v p i a.time w.0 w.1 in
        let hs = (in_range v p i a.time w.0 hv hi w.1).1 in
        elim (cases_Bool (enters (a.time - suc w.0) a.entries)) [
          | inl on ↦ (
              let n = enters_entry a.entries (a.time - suc w.0) on in
              let q : a.time - suc w.0 + w.0 + 1 ≡ a.time = omega arith in
              record { stage = w.0; sample = n.0; entry = a.time - suc w.0; resides = r; entered = n.1; when = q; row = sym (st.row w.0 i n.0 (a.time - suc w.0) r n.1 q) ∙ e })
          | inr off ↦ absurd (
              let z = sym e ∙ st.bubble w.0 i r (λ j y g q. let m : y ≡ a.time - suc w.0 = omega arith in let on = entry_enters a.entries j y g in let k = sym on ∙ (ap (λ u. enters u a.entries) m ∙ off) in cc) in cc)
        ])
  ]
