-- One clock of the module is one clock of the pipeline.
use Rattle.std.proofs.Common.{◌≡◌, ◌<◌, ℕ, zero, suc, ◌+◌, ◌-◌, ◌*◌, ◌%◌, ◌==◌, ◌&&◌, not, nat_lt, true, List, [], ◌∷◌, ◌++◌, length, map, bit_or, refl, sym, ap, ◌∙◌, arith, if◌then◌else◌}
use Rattle.std.specs.List.{list_all, flat_map}
use Rattle.std.proofs.Math.Nat.{mod-eq_of_lt}
use Rattle.std.proofs.lemmas.Bool.{and_parts, ltb-true}
use Rattle.std.proofs.lemmas.List.{map-append}
use Rattle.pr_base.specs.declared.choices.Mode.{Mode}
use Rattle.pr_base.specs.declared.choices.Carry.{Carry}
use Rattle.pr_base.specs.declared.choices.Next.{Next}
use Rattle.pr_conf.specs.declared.pes.Source.{Source}
use Rattle.pr_conf.specs.declared.pes.Bit.{Bit}
use Rattle.pr_conf.specs.declared.pes.Pe.{Pe}
use Rattle.pr_conf.specs.declared.outputs.Tap.{Tap}
use Rattle.pr_conf.specs.Shape.{OutputShape}
use Rattle.pr_conf.specs.Rules.{is_lawful_tap}
use Rattle.pr_conf.specs.StageMap.{step_of}
use Rattle.pr_conf.specs.Through.{tap_byte}
use Rattle.pr_conf_pipeline.specs.Rows.{Step}
use Rattle.pr_lens_rtl.specs.Clocked.{advanced, all_advanced, is_last_valid, last_rows, AreReset}
use Rattle.pr_lens_rtl.specs.declared.vectors.Part.{Part}
use Rattle.pr_lens_rtl.specs.declared.vectors.Net.{Net}
use Rattle.pr_lens_rtl.specs.Verilog.{Values, value, Takes, Fit}
use Rattle.pr_lens_rtl.specs.Module.{pes_wires, read_valid, stage_registers, stages_wires, stages_registers, tap_wires, tap_expr, hand_wires}
use Rattle.pr_lens_rtl.specs.Traces.{at_places, is_one, held, all_held}
use Rattle.pr_code.specs.Spelling.{has_tap_byte}
use Rattle.pr_lens_rtl.proofs.PeLaws.{place_below}
use Rattle.pr_lens_rtl.proofs.StageLaws.{takes_left, takes_right, places_at}
use Rattle.pr_lens_rtl.proofs.RegisterLaws.{IsStage, read_row, stage_on, stage_off, stage_reset}

pub idle : Pe
idle = record {
  a = Source.Const 0;
  hi = Source.Const 0;
  lo = Source.Const 0;
  shift = 0;
  c = Bit.None;
  table = 0;
  mode = Mode.Plain;
  cin = Carry.Zero;
  mask = 0;
  next = Next.Keep;
  init = 0;
  write = 0;
}

-- ---- all stages from one on
abbrev pub AreStages : ℕ → ℕ → ℕ → ℕ → List (List Pe) → Type 0
AreStages N P bus s [] = Unit {0}
AreStages N P bus s (pes ∷ stages) = IsStage N P bus s pes × AreStages N P bus (suc s) stages

abbrev pub AreSteps : ℕ → ℕ → (ℕ → Step (List ℕ) (List ℕ)) → ℕ → List (List Pe) → Type 0
AreSteps N P M s [] = Unit {0}
AreSteps N P M s (pes ∷ stages) = (M s ≡ step_of N P (s == 0) pes) × AreSteps N P M (suc s) stages

module _ (now after : Values) (N P bus : ℕ) (M : ℕ → Step (List ℕ) (List ℕ)) (fit : Fit now) where
  pub all_on : (s : ℕ) (stages : List (List Pe)) → AreStages N P bus s stages → AreSteps N P M s stages → Takes now now (stages_wires N s stages) → Takes now after (stages_registers N P s stages)
      → now Net.Reset ≡ 0 → now Net.InReady ≡ 1
      → all_held N P after s (length stages) ≡ all_advanced M s (is_one (now (read_valid s))) (read_row N P bus now s) (all_held N P now s (length stages))
  all_on s [] are steps wires takes r on = refl
  all_on s (pes ∷ stages) are steps wires takes r on =
      let one = stage_on now after N P bus s pes idle fit are.0 (takes_left now now (pes_wires N s 0 pes) (stages_wires N (suc s) stages) wires) (takes_left now after (stage_registers N P s pes) (stages_registers N P (suc s) stages) takes) r on
      ∙ ap (λ m. advanced m (is_one (now (read_valid s))) (read_row N P bus now s) (held N P now s)) (sym steps.0) in
      let rest = all_on (suc s) stages are.1 steps.1 (takes_right now now (pes_wires N s 0 pes) (stages_wires N (suc s) stages) wires) (takes_right now after (stage_registers N P s pes) (stages_registers N P (suc s) stages) takes) r on in
      λ t. one t ∷ rest t

  pub all_off : (s : ℕ) (stages : List (List Pe)) → AreStages N P bus s stages → Takes now now (stages_wires N s stages) → Takes now after (stages_registers N P s stages)
      → now Net.Reset ≡ 0 → now Net.InReady ≡ 0 → all_held N P after s (length stages) ≡ all_held N P now s (length stages)
  all_off s [] are wires takes r off = refl
  all_off s (pes ∷ stages) are wires takes r off =
      let one = stage_off now after N P bus s pes idle fit are.0 (takes_left now now (pes_wires N s 0 pes) (stages_wires N (suc s) stages) wires) (takes_left now after (stage_registers N P s pes) (stages_registers N P (suc s) stages) takes) r off in
      let rest = all_off (suc s) stages are.1 (takes_right now now (pes_wires N s 0 pes) (stages_wires N (suc s) stages) wires) (takes_right now after (stage_registers N P s pes) (stages_registers N P (suc s) stages) takes) r off in
      λ t. one t ∷ rest t

  pub all_reset : (s : ℕ) (stages : List (List Pe)) → AreStages N P bus s stages → AreSteps N P M s stages → Takes now now (stages_wires N s stages) → Takes now after (stages_registers N P s stages)
      → now Net.Reset ≡ 1 → AreReset M s (length stages) (all_held N P after s (length stages))
  all_reset s [] are steps wires takes r = tt
  all_reset s (pes ∷ stages) are steps wires takes r =
      let one = stage_reset now after N P bus s pes idle fit are.0 (takes_left now now (pes_wires N s 0 pes) (stages_wires N (suc s) stages) wires) (takes_left now after (stage_registers N P s pes) (stages_registers N P (suc s) stages) takes) r in (
        one.0 ∙ ap (λ m. m.init) (sym steps.0),
        one.1,
        all_reset (suc s) stages are.1 steps.1 (takes_right now now (pes_wires N s 0 pes) (stages_wires N (suc s) stages) wires) (takes_right now after (stage_registers N P s pes) (stages_registers N P (suc s) stages) takes) r,
      )

-- ---- the end of the pipeline
pub last_flag : (N P : ℕ) (now : Values) (s v : ℕ) → is_last_valid (all_held N P now s (suc v)) ≡ is_one (now (Net.Valid (s + v)))
last_flag N P now s zero = ap (λ q. is_one (now (Net.Valid q))) (let e : s ≡ s + 0 = omega arith in e)
last_flag N P now s (suc v) = last_flag N P now (suc s) v ∙ ap (λ q. is_one (now (Net.Valid q))) (let e : suc s + v ≡ s + suc v = omega arith in e)

pub last_row : (N P : ℕ) (now : Values) (s v : ℕ) → last_rows (all_held N P now s (suc v)) ≡ (if is_one (now (Net.Valid (s + v))) then at_places (λ k. now (Net.Of Part.Row (s + v) k)) 0 ((P - 1) * N) ∷ [] else [])
last_row N P now s zero = ap (λ q. if is_one (now (Net.Valid q)) then at_places (λ k. now (Net.Of Part.Row q k)) 0 ((P - 1) * N) ∷ [] else []) (let e : s ≡ s + 0 = omega arith in e)
last_row N P now s (suc v) = last_row N P now (suc s) v ∙ ap (λ q. if is_one (now (Net.Valid q)) then at_places (λ k. now (Net.Of Part.Row q k)) 0 ((P - 1) * N) ∷ [] else []) (let e : suc s + v ≡ s + suc v = omega arith in e)

-- the wires of the handshake
ready_bits : (v r : ℕ) → v < 2 → r < 2 → is_one (bit_or (1 - v) r % 2) ≡ not (is_one v && not (is_one r))
ready_bits zero zero a b = refl
ready_bits zero (suc zero) a b = refl
ready_bits (suc zero) zero a b = refl
ready_bits (suc zero) (suc zero) a b = refl
ready_bits zero (suc (suc r)) a b = absurd (omega arith)
ready_bits (suc zero) (suc (suc r)) a b = absurd (omega arith)
ready_bits (suc (suc v)) r a b = absurd (omega arith)

pub ready_law : (now : Values) (last : ℕ) → Fit now → Takes now now (hand_wires last) → is_one (now Net.InReady) ≡ not (is_one (now (Net.Valid last)) && not (is_one (now Net.OutReady)))
ready_law now last fit h = ap is_one h.0 ∙ ready_bits (now (Net.Valid last)) (now Net.OutReady) (fit (Net.Valid last)) (fit Net.OutReady)

pub shown_law : (now : Values) (last : ℕ) → Fit now → Takes now now (hand_wires last) → now Net.OutValid ≡ now (Net.Valid last)
shown_law now last fit h = h.1.0 ∙ mod-eq_of_lt (fit (Net.Valid last))

-- ---- the taps
pub tap_law : (now : Values) (N P last : ℕ) (tap : Tap) (w : ℕ) → Fit now → is_lawful_tap N P tap ≡ true → has_tap_byte tap ≡ true
    → value now (tap_expr N last tap) w % 256 ≡ tap_byte N (at_places (λ k. now (Net.Of Part.Row last k)) 0 ((P - 1) * N)) tap
tap_law now N P last (Tap.Const k) w fit l b = let small : k < 256 = ltb-true k 256 b in omega arith
tap_law now N P last (Tap.Reg col reg) w fit l b =
    let two = and_parts _ (nat_lt reg P) l in
    let one = and_parts (nat_lt col N) (nat_lt 0 reg) two.0 in
    mod-eq_of_lt (fit (Net.Of Part.Row last ((reg - 1) * N + col)))
    ∙ sym (places_at (λ k. now (Net.Of Part.Row last k)) ((P - 1) * N) ((reg - 1) * N + col) 0 (place_below N P col reg (ltb-true col N one.0) (ltb-true 0 reg one.1) (ltb-true reg P two.1)))

pub taps_law : (now : Values) (N P last k : ℕ) (taps : List Tap) → Fit now → list_all (is_lawful_tap N P) taps ≡ true → list_all has_tap_byte taps ≡ true → Takes now now (tap_wires N last k taps)
    → at_places (λ k. now (Net.Out k)) k (length taps) ≡ map (tap_byte N (at_places (λ k. now (Net.Of Part.Row last k)) 0 ((P - 1) * N))) taps
taps_law now N P last k [] fit l b h = refl
taps_law now N P last k (tap ∷ taps) fit l b h =
    let ls = and_parts (is_lawful_tap N P tap) (list_all (is_lawful_tap N P) taps) l in
    let bs = and_parts (has_tap_byte tap) (list_all has_tap_byte taps) b in
    let one = h.0 ∙ tap_law now N P last tap _ fit ls.0 bs.0 in
    let rest = taps_law now N P last (suc k) taps fit ls.1 bs.1 h.1 in
    λ t. one t ∷ rest t

pub map_taps : (N : ℕ) (row : List ℕ) (os : List OutputShape) → flat_map (λ (o : OutputShape). map (tap_byte N row) o.taps) os ≡ map (tap_byte N row) (flat_map (λ (o : OutputShape). o.taps) os)
map_taps N row [] = refl
map_taps N row (o ∷ os) = ap (λ q. map (tap_byte N row) o.taps ++ q) (map_taps N row os) ∙ sym (map-append (tap_byte N row) o.taps (flat_map (λ (o : OutputShape). o.taps) os))
