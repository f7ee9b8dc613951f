-- The line of a cycle, by what the machine tells after it.
use Rattle.std.proofs.Common.{◌≡◌, ℕ, ◌+◌, ◌<◌, true, List, [], ◌∷◌, ◌++◌, length, Option, Some, None, refl, sym, ap, ◌∙◌, subst, arith, inl, inr, codes, decimal}
use Rattle.std.proofs.lemmas.Bool.{cases_Bool, cond-true, cond-false}
use Rattle.pr_control.specs.Time.{event}
use Rattle.pr_control.specs.Residents.{Resides}
use Rattle.pr_control.proofs.ResidentLaws.{occupant_resides, resides_inside}
use Rattle.pr_conf_pipeline.specs.Rows.{state_after}
use Rattle.pr_machine_account.specs.Account.{Account, Cycle, stalled, entered, done, IsLawful}
use Rattle.pr_machine_account.proofs.AccountLaws.{lawful, account_push}
use Rattle.pr_machine_refines.specs.Cycle.{evicted_stage, entering_sample, leaving_result}
use Rattle.pr_conf.specs.declared.turns.Turn.{Turn}
use Rattle.pr_conf.specs.Shape.{Shape}
use Rattle.pr_conf.specs.Through.{steps_of}
use Rattle.pr_log.specs.Lines.{line_of, stall_line_of, configured_text, saved_text, entry_text}
use Rattle.pr_machine.specs.Stands.{History, account_of, turn_of, held_turn, next_turn, IsStored}
use Rattle.pr_run_script.specs.Text.{found_stage, told_turn, stalled_turn, state_row, log_line}
use Rattle.pr_run_script.proofs.LogLaws.{found_is, found_by_event, found_away, found_done}

-- a row of the store, where the machine has none to show
pub stored_none : (N P : ℕ) (c : Shape) (p : ℕ) (a : Account (List ℕ)) (s : ℕ) (row : List ℕ) → IsStored N P c p a s None → s < length c.stages
    → ((i : ℕ) → Resides (length c.stages) p a.time s i → ⊥) → row ≡ state_after (steps_of N P c) s (done s a.time a.entries) a.offered
stored_none N P c p a s row (inl past) inside away = absurd (omega (arith, past, inside))
stored_none N P c p a s row (inr (i, here)) inside away = absurd (away i here)

-- a saved row is the one of the stage that the cycle found
abbrev pub IsSaved : ℕ → ℕ → Shape → ℕ → Account (List ℕ) → Option ℕ → List ℕ → Type 0
IsSaved N P c p a saved row = (s : ℕ) → saved ≡ Some s → s < length c.stages → ((i : ℕ) → Resides (length c.stages) p a.time s i → ⊥)
    → row ≡ state_after (steps_of N P c) s (done s a.time a.entries) a.offered

-- the text of a stage that is saved, if one is
saved_same : (N P : ℕ) (c : Shape) (p : ℕ) (a : Account (List ℕ)) (o : Option ℕ) (row : List ℕ) → 0 < length c.stages → 0 < p → IsLawful (length c.stages) p a
    → found_stage (length c.stages) p a.time ≡ o → IsSaved N P c p (record a { entries = entered (length c.stages) p a; time = a.time + 1 }) o row
    → saved_text o row ≡ saved_text o (state_row N P c a o)
saved_same N P c p a None row hv hp l e h = refl
saved_same N P c p a (Some s) row hv hp l e h =
    let v = length c.stages in
    let f = found_by_event v p a.time s e in
    let inside = resides_inside v p a.time s f.stripe hp (occupant_resides v p f.stripe a.time s f.found) in
    let same = found_done v p s a hv hp l f in
    ap (saved_text (Some s)) (h s refl inside.0 (λ i r. found_away v p a.time s i hv hp f r) ∙ ap (λ n. state_after (steps_of N P c) s n a.offered) same)

-- a cycle that advances
advanced_line : (N P : ℕ) (c : Shape) (p : ℕ) (a : Account (List ℕ)) (row : List ℕ) → 0 < length c.stages → 0 < p → IsLawful (length c.stages) p a
    → IsSaved N P c p (record a { entries = entered (length c.stages) p a; time = a.time + 1 }) (evicted_stage (length c.stages) p a.time) row
    → line_of (next_turn (length c.stages) p a) a.time row ≡ line_of (told_turn (length c.stages) p a) a.time (state_row N P c a (found_stage (length c.stages) p a.time))
advanced_line N P c p a row hv hp l h =
    let v = length c.stages in
    let turn : Option ℕ → Turn = λ o. record { advanced = true; configured = event v p a.time; saved = o; entered = entering_sample v p a; left = leaving_result v p a } in
    let is = found_is v p a.time hp in
    let h' : IsSaved N P c p (record a { entries = entered v p a; time = a.time + 1 }) (found_stage v p a.time) row = rw is h in
    let same = saved_same N P c p a (found_stage v p a.time) row hv hp l refl h' in
    ap (λ o. line_of (turn o) a.time row) (sym is)
    ∙ ap (λ (text : List ℕ).
    codes "cycle " ++ decimal a.time ++ codes " conf " ++ configured_text (event v p a.time) ++ codes " save " ++ text
    ++ codes " in " ++ entry_text (entering_sample v p a) ++ codes " out " ++ entry_text (leaving_result v p a) ++ codes "\n") same

-- the line of a cycle is that of the log
pub cycle_line : (N P : ℕ) (c : Shape) (p : ℕ) (h : History) (turn : Turn) (time : ℕ) (row : List ℕ) → 0 < length c.stages → 0 < p
    → turn ≡ turn_of (length c.stages) p (account_of c p h) → time ≡ (account_of c p h).time → IsSaved N P c p (account_of c p (h ++ Cycle ∷ [])) turn.saved row
    → line_of turn time row ≡ log_line N P c p (account_of c p h)
cycle_line N P c p h turn time row hv hp is at saved =
    let v = length c.stages in
    let a = account_of c p h in
    let after_is = account_push v p h Cycle in
    let state = state_row N P c a (found_stage v p a.time) in
    elim (cases_Bool (stalled v p a)) [
      | inl held ↦ (
          ap (λ (t : Turn). line_of t time row) (is ∙ cond-true (stalled v p a) held_turn (next_turn v p a) held)
          ∙ (ap stall_line_of at
          ∙ sym (ap (λ (t : Turn). line_of t a.time state) (cond-true (stalled v p a) stalled_turn (told_turn v p a) held))))
      | inr free ↦ (
          let next = is ∙ cond-false (stalled v p a) held_turn (next_turn v p a) free in
          let moved : Account (List ℕ) = record a { entries = entered v p a; time = a.time + 1 } in
          let then = after_is ∙ cond-false (stalled v p a) a moved free in
          let s1 : IsSaved N P c p moved turn.saved row = subst (λ (b : Account (List ℕ)). IsSaved N P c p b turn.saved row) then saved in
          let s2 : IsSaved N P c p moved (evicted_stage v p a.time) row = subst (λ (o : Option ℕ). IsSaved N P c p moved o row) (ap (λ (t : Turn). t.saved) next) s1 in
          ap (λ (t : Turn). line_of t time row) next
          ∙ (ap (λ n. line_of (next_turn v p a) n row) at
          ∙ (advanced_line N P c p a row hv hp (lawful v p h hv) s2
          ∙ sym (ap (λ (t : Turn). line_of t a.time state) (cond-false (stalled v p a) stalled_turn (told_turn v p a) free)))))
    ]
