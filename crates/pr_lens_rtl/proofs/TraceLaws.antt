-- A run of the module from a reset gives the results of the configuration.
use Rattle.std.proofs.Common.{◌≡◌, ◌<◌, ◌≤◌, ℕ, zero, suc, ◌+◌, ◌-◌, ◌*◌, ◌==◌, ◌&&◌, ◌||◌, not, Bool, true, false, List, [], ◌∷◌, ◌++◌, length, get_or, map, refl, sym, ap, subst, ◌∙◌, arith, if◌then◌else◌}
use Rattle.std.specs.List.{list_all, flat_map}
use Rattle.std.proofs.lemmas.Bool.{and_parts, eqb-true}
use Rattle.std.proofs.lemmas.List.{map-append}
use Rattle.pr_conf.specs.declared.pes.Pe.{Pe}
use Rattle.pr_conf.specs.Shape.{OutputShape, Shape}
use Rattle.pr_conf.specs.Rules.{IsLawful, is_lawful_tap, is_lawful_output, is_lawful_width, are_lawful_pes, are_lawful_stages, site_of, bytes_in}
use Rattle.pr_conf.specs.StageMap.{step_of}
use Rattle.pr_conf.specs.Through.{tapped, steps_of, results_of}
use Rattle.pr_base.specs.Numbers.{slices_of}
use Rattle.pr_conf_pipeline.specs.Rows.{Step}
use Rattle.pr_lens_rtl.specs.Clocked.{Pins, all_advanced, clock, is_enabled, is_last_valid, last_rows, accepted_now, taken_now, accepted, taken, delivered, after_clocks, AreReset, enabled_clocks, is_quiet}
use Rattle.pr_lens_rtl.proofs.FlowLaws.{flow, order_law, all_law}
use Rattle.pr_lens_rtl.specs.declared.vectors.Part.{Part}
use Rattle.pr_lens_rtl.specs.declared.vectors.Net.{Net}
use Rattle.pr_lens_rtl.specs.Verilog.{Values, Takes, IsSettled, IsClock}
use Rattle.pr_lens_rtl.specs.Module.{hand_wires, stages_wires, tap_wires, stages_registers, taps_of, last_of, module_of}
use Rattle.pr_lens_rtl.specs.Traces.{at_places, is_one, all_held, sample_at, pins, result_at, samples_in, results_in, IsRun, IsRunFromReset, end_of, offers_none, ready_clocks, IsReadyForMore}
use Rattle.pr_code.specs.Spelling.{has_pe_bytes, has_tap_byte, have_tap_bytes, has_bytes}
use Rattle.pr_lens_rtl.proofs.StageLaws.{takes_left, takes_right}
use Rattle.pr_lens_rtl.proofs.ClockLaws.{AreStages, AreSteps, all_on, all_off, all_reset, last_flag, last_row, ready_law, shown_law, taps_law, map_taps}

-- ---- from the rules of a configuration
pub are_stages : (N P bus s : ℕ) (stages : List (List Pe)) → 1 ≤ N → 2 ≤ P → are_lawful_stages N P bus s stages ≡ true → list_all (list_all has_pe_bytes) stages ≡ true → AreStages N P bus s stages
are_stages N P bus s [] n p l b = tt
are_stages N P bus s (pes ∷ stages) n p l b =
    let two = and_parts ((length pes == N) && are_lawful_pes (site_of N P bus s) pes) (are_lawful_stages N P bus (s + 1) stages) l in
    let one = and_parts (length pes == N) (are_lawful_pes (site_of N P bus s) pes) two.0 in
    let bs = and_parts (list_all has_pe_bytes pes) (list_all (list_all has_pe_bytes) stages) b in (
      record { columns = n; registers = p; long = eqb-true (length pes) N one.0; lawful = one.1; bytes = bs.0 },
      are_stages N P bus (suc s) stages n p (subst (λ q. are_lawful_stages N P bus q stages ≡ true) (let e : s + 1 ≡ suc s = omega arith in e) two.1) bs.1,
    )

are_steps : (N P s : ℕ) (whole stages : List (List Pe)) → ((k : ℕ) → get_or whole (s + k) [] ≡ get_or stages k []) → AreSteps N P (λ q. step_of N P (q == 0) (get_or whole q [])) s stages
are_steps N P s whole [] h = tt
are_steps N P s whole (pes ∷ stages) h = (
  ap (step_of N P (s == 0)) (ap (λ q. get_or whole q []) (let e : s ≡ s + 0 = omega arith in e) ∙ h 0),
  are_steps N P (suc s) whole stages (λ k. ap (λ q. get_or whole q []) (let e : suc s + k ≡ s + suc k = omega arith in e) ∙ h (suc k)),
)

all_both : {A : Type 0} (p : A → Bool) (xs ys : List A) → list_all p xs ≡ true → list_all p ys ≡ true → list_all p (xs ++ ys) ≡ true
all_both p [] ys a b = b
all_both p (x ∷ xs) ys a b =
    let parts = and_parts (p x) (list_all p xs) a in
    ap (λ q. q && list_all p (xs ++ ys)) parts.0 ∙ all_both p xs ys parts.1 b

pub outputs_taps : (N P : ℕ) (os : List OutputShape) → list_all (is_lawful_output N P) os ≡ true → list_all (is_lawful_tap N P) (flat_map (λ (o : OutputShape). o.taps) os) ≡ true
outputs_taps N P [] h = refl
outputs_taps N P (o ∷ os) h =
    let one = and_parts (is_lawful_output N P o) (list_all (is_lawful_output N P) os) h in
    all_both (is_lawful_tap N P) o.taps (flat_map (λ (o : OutputShape). o.taps) os)
    (and_parts (is_lawful_width o.width && (length o.taps == slices_of o.width)) (list_all (is_lawful_tap N P) o.taps) one.0).1
    (outputs_taps N P os one.1)

taps_bytes : (os : List OutputShape) → list_all have_tap_bytes os ≡ true → list_all has_tap_byte (flat_map (λ (o : OutputShape). o.taps) os) ≡ true
taps_bytes [] h = refl
taps_bytes (o ∷ os) h =
    let one = and_parts (list_all has_tap_byte o.taps) (list_all have_tap_bytes os) h in
    all_both has_tap_byte o.taps (flat_map (λ (o : OutputShape). o.taps) os) one.0 (taps_bytes os one.1)

not_both : (a b : Bool) → not (a && not b) ≡ (not a || b)
not_both false b = refl
not_both true false = refl
not_both true true = refl

module _ (N P : ℕ) (c : Shape) (lawful : IsLawful N P c) (bytes : has_bytes c ≡ true) where
  abbrev M : ℕ → Step (List ℕ) (List ℕ)
  M = steps_of N P c

  abbrev v : ℕ
  v = length c.stages

  abbrev last : ℕ
  last = last_of c

  size : v ≡ suc last
  size = let s = lawful.some in omega arith

  stages_are : AreStages N P (bytes_in c.inputs) 0 c.stages
  stages_are = are_stages N P (bytes_in c.inputs) 0 c.stages lawful.columns lawful.registers lawful.stages (and_parts (list_all have_tap_bytes c.outputs) (list_all (list_all has_pe_bytes) c.stages) bytes).1

  steps_are : AreSteps N P M 0 c.stages
  steps_are = are_steps N P 0 c.stages c.stages (λ k. ap (λ q. get_or c.stages q []) (let e : 0 + k ≡ k = omega arith in e))

  stage_wires : (now : Values) → IsSettled (module_of N P c) now → Takes now now (stages_wires N 0 c.stages)
  unfolding module_of
  stage_wires now s = takes_left now now (stages_wires N 0 c.stages) (hand_wires last ++ tap_wires N last 0 (taps_of c)) s.wires

  hand : (now : Values) → IsSettled (module_of N P c) now → Takes now now (hand_wires last)
  unfolding module_of
  hand now s = takes_left now now (hand_wires last) (tap_wires N last 0 (taps_of c)) (takes_right now now (stages_wires N 0 c.stages) (hand_wires last ++ tap_wires N last 0 (taps_of c)) s.wires)

  out_wires : (now : Values) → IsSettled (module_of N P c) now → Takes now now (tap_wires N last 0 (taps_of c))
  unfolding module_of
  out_wires now s = takes_right now now (hand_wires last) (tap_wires N last 0 (taps_of c)) (takes_right now now (stages_wires N 0 c.stages) (hand_wires last ++ tap_wires N last 0 (taps_of c)) s.wires)

  clocked : (now after : Values) → IsClock (module_of N P c) now after → Takes now after (stages_registers N P 0 c.stages)
  unfolding module_of
  clocked now after k = k.registers

  ready_is : (now : Values) → IsSettled (module_of N P c) now → is_one (now Net.InReady) ≡ is_enabled (all_held N P now 0 v) (is_one (now Net.OutReady))
  ready_is now s =
      ready_law now last s.fit (hand now s)
      ∙ ap (λ q. not (q && not (is_one (now Net.OutReady))))
      (sym (ap (λ n. is_last_valid (all_held N P now 0 n)) size ∙ last_flag N P now 0 last ∙ ap (λ q. is_one (now (Net.Valid q))) (let e : 0 + last ≡ last = omega arith in e)))

  -- the module is ready where no result stands at its end, and where the reader is ready for it
  pub more_law : (now : Values) → IsSettled (module_of N P c) now → IsReadyForMore now
  more_law now s =
      ready_law now last s.fit (hand now s)
      ∙ ap (λ q. not (is_one q && not (is_one (now Net.OutReady)))) (sym (shown_law now last s.fit (hand now s)))
      ∙ not_both (is_one (now Net.OutValid)) (is_one (now Net.OutReady))

  flag_cases : (F : ℕ → Type 0) (n : ℕ) → n < 2 → (n ≡ 0 → F n) → (n ≡ 1 → F n) → F n
  flag_cases F zero l a b = a refl
  flag_cases F (suc zero) l a b = b refl
  flag_cases F (suc (suc n)) l a b = absurd (omega arith)

  -- one clock of the module is one step of the clocked pipeline
  pub clock_law : (now after : Values) → IsClock (module_of N P c) now after → now Net.Reset ≡ 0 → all_held N P after 0 v ≡ clock M (all_held N P now 0 v) (pins c now)
  clock_law now after k r =
      let hs = all_held N P now 0 v in
      let p = pins c now in
      flag_cases (λ n. now Net.InReady ≡ n → all_held N P after 0 v ≡ (if is_enabled hs p.ready then all_advanced M 0 p.valid p.row hs else hs)) (now Net.InReady) (k.before.fit Net.InReady)
      (λ z e. all_off now after N P (bytes_in c.inputs) M k.before.fit 0 c.stages stages_are (stage_wires now k.before) (clocked now after k) r z
      ∙ ap (λ q. if q then all_advanced M 0 p.valid p.row hs else hs) (sym (ap is_one z) ∙ ready_is now k.before))
      (λ z e. all_on now after N P (bytes_in c.inputs) M k.before.fit 0 c.stages stages_are steps_are (stage_wires now k.before) (clocked now after k) r z
      ∙ ap (λ q. if q then all_advanced M 0 p.valid p.row hs else hs) (sym (ap is_one z) ∙ ready_is now k.before))
      refl

  reset_law : (now after : Values) → IsClock (module_of N P c) now after → now Net.Reset ≡ 1 → AreReset M 0 v (all_held N P after 0 v)
  reset_law now after k r = all_reset now after N P (bytes_in c.inputs) M k.before.fit 0 c.stages stages_are steps_are (stage_wires now k.before) (clocked now after k) r

  -- what enters and what leaves
  entering : (now : Values) → IsSettled (module_of N P c) now → accepted_now (all_held N P now 0 v) (pins c now) ≡ (if is_one (now Net.InReady) && is_one (now Net.InValid) then sample_at c now ∷ [] else [])
  entering now s = ap (λ q. if q && is_one (now Net.InValid) then sample_at c now ∷ [] else []) (sym (ready_is now s))

  result_is : (now : Values) → IsSettled (module_of N P c) now → result_at c now ≡ tapped N c (at_places (λ k. now (Net.Of Part.Row last k)) 0 ((P - 1) * N))
  result_is now s =
      taps_law now N P last 0 (taps_of c) s.fit (outputs_taps N P c.outputs (and_parts _ (list_all (is_lawful_output N P) c.outputs) lawful.outputs).1)
      (taps_bytes c.outputs (and_parts (list_all have_tap_bytes c.outputs) (list_all (list_all has_pe_bytes) c.stages) bytes).0) (out_wires now s)
      ∙ sym (map_taps N (at_places (λ k. now (Net.Of Part.Row last k)) 0 ((P - 1) * N)) c.outputs)

  leaving : (now : Values) → IsSettled (module_of N P c) now → map (tapped N c) (taken_now (all_held N P now 0 v) (pins c now)) ≡ (if is_one (now Net.OutReady) && is_one (now Net.OutValid) then result_at c now ∷ [] else [])
  leaving now s = go (is_one (now Net.OutReady))
    where
      row : List ℕ
      row = at_places (λ k. now (Net.Of Part.Row last k)) 0 ((P - 1) * N)

      rows : last_rows (all_held N P now 0 v) ≡ (if is_one (now (Net.Valid last)) then at_places (λ k. now (Net.Of Part.Row last k)) 0 ((P - 1) * N) ∷ [] else [])
      rows = ap (λ n. last_rows (all_held N P now 0 n)) size ∙ last_row N P now 0 last
          ∙ ap (λ q. if is_one (now (Net.Valid q)) then at_places (λ k. now (Net.Of Part.Row q k)) 0 ((P - 1) * N) ∷ [] else []) (let e : 0 + last ≡ last = omega arith in e)

      each : (b : Bool) → map (tapped N c) (if b then at_places (λ k. now (Net.Of Part.Row last k)) 0 ((P - 1) * N) ∷ [] else []) ≡ (if b then result_at c now ∷ [] else [])
      each true = ap (λ q. q ∷ []) (sym (result_is now s))
      each false = refl

      go : (b : Bool) → map (tapped N c) (if b then last_rows (all_held N P now 0 v) else []) ≡ (if b && is_one (now Net.OutValid) then result_at c now ∷ [] else [])
      go false = refl
      go true = ap (map (tapped N c)) rows ∙ each (is_one (now (Net.Valid last))) ∙ ap (λ q. if is_one q then result_at c now ∷ [] else []) (sym (shown_law now last s.fit (hand now s)))

  -- ---- runs
  abbrev run_pins : Values → List Values → List (Pins (List ℕ))
  run_pins now [] = []
  run_pins now (after ∷ rest) = pins c now ∷ run_pins after rest

  samples_are : (now : Values) (rest : List Values) → IsRun (module_of N P c) now rest → accepted M (all_held N P now 0 v) (run_pins now rest) ≡ samples_in c now rest
  samples_are now [] h = refl
  samples_are now (after ∷ rest) h =
      ap (λ q. q ++ accepted M (clock M (all_held N P now 0 v) (pins c now)) (run_pins after rest)) (entering now h.0.before)
      ∙ ap (λ q. (if is_one (now Net.InReady) && is_one (now Net.InValid) then sample_at c now ∷ [] else []) ++ q)
      (ap (λ hs. accepted M hs (run_pins after rest)) (sym (clock_law now after h.0 h.1)) ∙ samples_are after rest h.2)

  results_are : (now : Values) (rest : List Values) → IsRun (module_of N P c) now rest → delivered M (tapped N c) (all_held N P now 0 v) (run_pins now rest) ≡ results_in c now rest
  results_are now [] h = refl
  results_are now (after ∷ rest) h =
      map-append (tapped N c) (taken_now (all_held N P now 0 v) (pins c now)) (taken M (clock M (all_held N P now 0 v) (pins c now)) (run_pins after rest))
      ∙ ap (λ q. q ++ map (tapped N c) (taken M (clock M (all_held N P now 0 v) (pins c now)) (run_pins after rest))) (leaving now h.0.before)
      ∙ ap (λ q. (if is_one (now Net.OutReady) && is_one (now Net.OutValid) then result_at c now ∷ [] else []) ++ q)
      (ap (λ hs. map (tapped N c) (taken M hs (run_pins after rest))) (sym (clock_law now after h.0 h.1)) ∙ results_are after rest h.2)

  pub trace_law : (first now : Values) (rest : List Values) → IsRunFromReset (module_of N P c) first now rest
      → (more : List (List ℕ)) × (results_of N P c (samples_in c now rest) ≡ results_in c now rest ++ more)
  trace_law first now rest h =
      let hs = all_held N P now 0 v in
      let more = map (tapped N c) (flow M 0 (after_clocks M hs (run_pins now rest)) []) in (
        more,
        ap (results_of N P c) (sym (samples_are now rest h.run))
            ∙ order_law M v (tapped N c) hs (run_pins now rest) lawful.some (reset_law first now h.clock h.reset)
            ∙ ap (λ q. q ++ more) (results_are now rest h.run),
      )

  -- ---- a run that goes on
  run_left : (now : Values) (rest more : List Values) → IsRun (module_of N P c) now (rest ++ more) → IsRun (module_of N P c) now rest
  run_left now [] more h = tt
  run_left now (after ∷ rest) more h = (h.0, h.1, run_left after rest more h.2)

  run_right : (now : Values) (rest more : List Values) → IsRun (module_of N P c) now (rest ++ more) → IsRun (module_of N P c) (end_of now rest) more
  run_right now [] more h = h
  run_right now (after ∷ rest) more h = run_right after rest more h.2

  pins_both : (now : Values) (rest more : List Values) → run_pins now (rest ++ more) ≡ run_pins now rest ++ run_pins (end_of now rest) more
  pins_both now [] more = refl
  pins_both now (after ∷ rest) more = ap (λ q. pins c now ∷ q) (pins_both after rest more)

  held_end : (now : Values) (rest : List Values) → IsRun (module_of N P c) now rest → after_clocks M (all_held N P now 0 v) (run_pins now rest) ≡ all_held N P (end_of now rest) 0 v
  held_end now [] h = refl
  held_end now (after ∷ rest) h = ap (λ hs. after_clocks M hs (run_pins after rest)) (sym (clock_law now after h.0 h.1)) ∙ held_end after rest h.2

  quiet_pins : (now : Values) (more : List Values) → list_all is_quiet (run_pins now more) ≡ offers_none now more
  quiet_pins now [] = refl
  quiet_pins now (after ∷ more) = ap (λ q. not (is_one (now Net.InValid)) && q) (quiet_pins after more)

  ready_pins : (now : Values) (more : List Values) → IsRun (module_of N P c) now more → enabled_clocks M (all_held N P now 0 v) (run_pins now more) ≡ ready_clocks now more
  ready_pins now [] h = refl
  ready_pins now (after ∷ more) h =
      ap (λ q. if q then suc (enabled_clocks M (clock M (all_held N P now 0 v) (pins c now)) (run_pins after more)) else enabled_clocks M (clock M (all_held N P now 0 v) (pins c now)) (run_pins after more)) (sym (ready_is now h.0.before))
      ∙ ap (λ q. if is_one (now Net.InReady) then suc q else q) (ap (λ hs. enabled_clocks M hs (run_pins after more)) (sym (clock_law now after h.0 h.1)) ∙ ready_pins after more h.2)

  pub whole_law : (first now : Values) (rest more : List Values) → IsRunFromReset (module_of N P c) first now (rest ++ more) → offers_none (end_of now rest) more ≡ true → v ≤ ready_clocks (end_of now rest) more
      → results_in c now (rest ++ more) ≡ results_of N P c (samples_in c now rest)
  whole_law first now rest more h none long =
      let hs = all_held N P now 0 v in
      let left = run_left now rest more h.run in
      let right = run_right now rest more h.run in
      let end = held_end now rest left in
      let quiet : list_all is_quiet (run_pins (end_of now rest) more) ≡ true = quiet_pins (end_of now rest) more ∙ none in
      let enabled : enabled_clocks M (after_clocks M hs (run_pins now rest)) (run_pins (end_of now rest) more) ≡ ready_clocks (end_of now rest) more =
      ap (λ q. enabled_clocks M q (run_pins (end_of now rest) more)) end ∙ ready_pins (end_of now rest) more right in
      sym (results_are now (rest ++ more) h.run)
      ∙ ap (delivered M (tapped N c) hs) (pins_both now rest more)
      ∙ all_law M v (tapped N c) hs (run_pins now rest) (run_pins (end_of now rest) more) lawful.some (reset_law first now h.clock h.reset) quiet (omega (arith, enabled, long))
      ∙ ap (results_of N P c) (samples_are now rest left)
