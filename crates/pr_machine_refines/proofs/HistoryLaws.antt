-- What stands for a history stands for it with one more event, and the replies are the account's.
use Rattle.std.proofs.Common.{◌≡◌, ℕ, ◌+◌, ◌-◌, ◌<◌, Bool, true, false, cond, ◌&&◌, ltb, eqb, List, [], ◌∷◌, ◌++◌, length, refl, sym, ap, ap₂, ◌∙◌, subst, arith, Option, Some, None, is_some, length-drop}
use Rattle.std.proofs.lemmas.Bool.{cond-true, cond-false, lt-ltb, le-ltb}
use Rattle.pr_control.specs.Time.{event, turned, IsActive, IsRing}
use Rattle.pr_conf_pipeline.specs.Rows.{Step}
use Rattle.pr_machine_account.specs.Account.{Event, Offer, Take, Cycle, left, stalled, start, account}
use Rattle.pr_machine_account.specs.Replies.{taken_now}
use Rattle.pr_machine_account.proofs.AccountLaws.{lawful, account_push}
use Rattle.pr_machine_refines.specs.Spots.{Spot, Bare}
use Rattle.pr_machine_refines.specs.Stands.{IsStanding}
use Rattle.pr_machine_refines.specs.Cycle.{will_enter, will_leave, bus_of, rest_of, pushed, HasRoom, IsTurned, IsPass, saved_by, evicted_stage, entering_sample, leaving_result}
use Rattle.pr_machine_refines.proofs.Fits.{StandsAt}
use Rattle.pr_machine_refines.proofs.StandsLaws.{waiting_results, stalled_is, stands_stalled, IsAdvance, bus_told, byte_told, saved_told, stands_advanced}
use Rattle.pr_machine_refines.proofs.EventLaws.{offered_room, offered_full, taken_one, taken_none, taken_is, stands_start}
use Rattle.pr_machine_refines.proofs.Numbered.{numbered, no_numbers}
use Rattle.pr_machine_refines.proofs.StandingLaws.{standing_of, stands_of}

-- ---- the beginning
pub standing_start : {S R B : Type 0} (M : ℕ → Step S R) (tap : R → B) (v p : ℕ) (spots : ℕ → Spot S R) (store : ℕ → S) → 0 < v → 0 < p → ((i : ℕ) → i < p → spots i ≡ Bare None) → ((s : ℕ) → s < v → store s ≡ (M s).init)
    → IsStanding M tap v p spots store 0 0 0 [] [] (account v p [])
unfolding account
standing_start M tap v p spots store hv hp b f = standing_of M tap v p spots store 0 0 0 [] [] start hv hp no_numbers (stands_start M tap v p spots store b f)

module _ {S R B : Type 0} (M : ℕ → Step S R) (tap : R → B) (v p : ℕ) (spots : ℕ → Spot S R) (store : ℕ → S) (now came went : ℕ) (waiting : List R) (ready : List B) (h : List (Event R)) (hv : 0 < v) (hp : 0 < p)
    (st : IsStanding M tap v p spots store now came went waiting ready (account v p h)) where
  by_stripes : StandsAt M tap v p spots store now came went waiting ready (account v p h)
  by_stripes = stands_of M tap v p spots store now came went waiting ready (account v p h) hv hp (numbered v p h hv) st

  count_in : length waiting ≡ length (account v p h).offered - length (account v p h).entries
  count_in = ap length st.input ∙ length-drop (length (account v p h).entries) (account v p h).offered

  pub standing_in : length waiting ≡ length (account v p h).offered - length (account v p h).entries
  standing_in = count_in

  pub standing_out : length ready ≡ left v (account v p h) - (account v p h).taken
  standing_out = waiting_results M tap v p spots store now came went waiting ready (account v p h) (lawful v p h hv) by_stripes

  -- ---- an offer
  pub accepts : length waiting < 16 → ltb (length (account v p h).offered - length (account v p h).entries) 16 ≡ true
  accepts r = lt-ltb _ 16 (let e = count_in in omega arith)

  pub refuses : length waiting ≡ 16 → ltb (length (account v p h).offered - length (account v p h).entries) 16 ≡ false
  refuses r = le-ltb _ 16 (let e = count_in in omega arith)

  pub standing_offered : (x : R) → length waiting < 16 → IsStanding M tap v p spots store now came went (waiting ++ x ∷ []) ready (account v p (h ++ Offer x ∷ []))
  standing_offered x r =
      standing_of M tap v p spots store now came went (waiting ++ x ∷ []) ready (account v p (h ++ Offer x ∷ [])) hv hp (numbered v p (h ++ Offer x ∷ []) hv)
      (subst (StandsAt M tap v p spots store now came went (waiting ++ x ∷ []) ready) (sym (account_push v p h (Offer x))) (offered_room M tap v p spots store now came went waiting ready x (account v p h) (lawful v p h hv) r by_stripes))

  pub standing_refused : (x : R) → length waiting ≡ 16 → IsStanding M tap v p spots store now came went waiting ready (account v p (h ++ Offer x ∷ []))
  standing_refused x r =
      standing_of M tap v p spots store now came went waiting ready (account v p (h ++ Offer x ∷ [])) hv hp (numbered v p (h ++ Offer x ∷ []) hv)
      (subst (StandsAt M tap v p spots store now came went waiting ready) (sym (account_push v p h (Offer x))) (offered_full M tap v p spots store now came went waiting ready x (account v p h) r by_stripes))

  -- ---- a take
  pub standing_taken : (r : B) (rest : List B) → ready ≡ r ∷ rest → IsStanding M tap v p spots store now came went waiting rest (account v p (h ++ Take ∷ []))
  standing_taken r rest e =
      standing_of M tap v p spots store now came went waiting rest (account v p (h ++ Take ∷ [])) hv hp (numbered v p (h ++ Take ∷ []) hv)
      (subst (StandsAt M tap v p spots store now came went waiting rest) (sym (account_push v p h Take)) (taken_one M tap v p spots store now came went waiting ready rest r (account v p h) (lawful v p h hv) e standing_out by_stripes))

  pub standing_unready : ready ≡ [] → IsStanding M tap v p spots store now came went waiting ready (account v p (h ++ Take ∷ []))
  standing_unready e =
      standing_of M tap v p spots store now came went waiting ready (account v p (h ++ Take ∷ [])) hv hp (numbered v p (h ++ Take ∷ []) hv)
      (subst (StandsAt M tap v p spots store now came went waiting ready) (sym (account_push v p h Take)) (taken_none M tap v p spots store now came went waiting ready (account v p h) e standing_out by_stripes))

  pub gives : (r : B) (rest : List B) → ready ≡ r ∷ rest → taken_now M v tap (account v p h) ≡ Some r
  gives r rest e =
      let n = ap length e in
      let o = standing_out in
      cond-true (ltb (account v p h).taken (left v (account v p h))) _ None (lt-ltb _ _ (omega arith))
      ∙ taken_is M tap v p spots store now came went waiting ready rest r (account v p h) e standing_out by_stripes

  pub gives_none : ready ≡ [] → taken_now M v tap (account v p h) ≡ None
  gives_none e =
      let n = ap length e in
      let o = standing_out in
      cond-false (ltb (account v p h).taken (left v (account v p h))) _ None (le-ltb _ _ (omega arith))

  -- ---- a cycle
  pub held_is : (first last : Option ℕ) → IsActive v p now 0 first → IsActive v p now (v - 1) last
      → (will_leave p spots (eqb v 1) (will_enter (length waiting) first) last && eqb (length ready) 16) ≡ stalled v p (account v p h)
  held_is first last f l = stalled_is M tap v p spots store now came went waiting ready (account v p h) first last hv (lawful v p h hv) by_stripes f l

  pub standing_held : stalled v p (account v p h) ≡ true → IsStanding M tap v p spots store now came went waiting ready (account v p (h ++ Cycle ∷ []))
  standing_held e = subst (IsStanding M tap v p spots store now came went waiting ready) (sym (account_push v p h Cycle ∙ stands_stalled v p (account v p h) e)) st

  module _ (new : ℕ → Spot S R) (store' : ℕ → S) (ready' : List B) (first last ring : Option ℕ) (brings : Option (ℕ × ℕ)) (bus : Option R) (byte : Option B) (out : Option ℕ)
      (first_is : IsActive v p now 0 first) (last_is : IsActive v p now (v - 1) last) (ring_is : IsRing v p now ring) (brings_is : brings ≡ turned (event v p now)) (bus_is : bus ≡ bus_of waiting first)
      (pass : IsPass M tap v p ring last brings bus spots new store store' byte out) (row : HasRoom ready byte → ready' ≡ pushed ready byte) where
    turned_twice : (o : Option (ℕ × ℕ)) → turned (turned o) ≡ o
    turned_twice None = refl
    turned_twice (Some e) = refl

    event_is : turned brings ≡ event v p now
    event_is = ap turned brings_is ∙ turned_twice (event v p now)

    advance : IsAdvance M tap v p spots pass.mid new store store' now waiting ready ready' first last ring bus byte
    advance = record {
      first_is = first_is;
      last_is = last_is;
      ring_is = ring_is;
      bus_is = bus_is;
      stepped = pass.computed;
      byte_is = pass.result;
      row = row;
      turn = subst (λ e. IsTurned v e pass.mid new store store') event_is pass.event;
    }

    pub standing_next : stalled v p (account v p h) ≡ false → IsStanding M tap v p new store' (now + 1) (came + cond (is_some bus) 1 0) (went + cond (is_some byte) 1 0) (rest_of waiting first) ready' (account v p (h ++ Cycle ∷ []))
    standing_next free =
        standing_of M tap v p new store' (now + 1) (came + cond (is_some bus) 1 0) (went + cond (is_some byte) 1 0) (rest_of waiting first) ready' (account v p (h ++ Cycle ∷ [])) hv hp (numbered v p (h ++ Cycle ∷ []) hv)
        (subst (StandsAt M tap v p new store' (now + 1) (came + cond (is_some bus) 1 0) (went + cond (is_some byte) 1 0) (rest_of waiting first) ready') (sym (account_push v p h Cycle))
        (stands_advanced M tap v p spots pass.mid new store store' now came went waiting ready ready' first last ring bus byte (account v p h) hv hp (lawful v p h hv) by_stripes advance free))

    pub event_told : turned brings ≡ event v p (account v p h).time
    event_told = event_is ∙ ap (event v p) st.time

    pub out_told : out ≡ evicted_stage v p (account v p h).time
    out_told =
        pass.saved ∙ (ap (saved_by pass.mid) event_told
        ∙ saved_told M tap v p spots pass.mid new store store' now came went waiting ready ready' first last ring bus byte (account v p h) hv hp (lawful v p h hv) by_stripes advance)

    pub entered_told : (if_came : Bool) → is_some bus ≡ if_came → cond if_came (Some came) None ≡ entering_sample v p (account v p h)
    entered_told b e =
        ap₂ (λ x n. cond x (Some n) None) (sym e ∙ bus_told M tap v p spots pass.mid new store store' now came went waiting ready ready' first last ring bus byte (account v p h) hv hp (lawful v p h hv) by_stripes advance) st.entered

    pub left_told : (if_left : Bool) → is_some byte ≡ if_left → cond if_left (Some went) None ≡ leaving_result v p (account v p h)
    left_told b e =
        ap₂ (λ x n. cond x (Some n) None) (sym e ∙ byte_told M tap v p spots pass.mid new store store' now came went waiting ready ready' first last ring bus byte (account v p h) hv hp (lawful v p h hv) by_stripes advance) st.gone
