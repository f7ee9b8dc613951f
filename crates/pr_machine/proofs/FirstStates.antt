-- The states that stages begin with, and the sizes of queues.
use Rattle.std.proofs.Common.{◌≡◌, ℕ, ◌%◌, ◌<◌, ◌≤◌, true, ◌&&◌, ltb, leb, List, [], ◌∷◌, length, get_or, map, refl, sym, ap, ◌∙◌, arith, vec_len}
use Rattle.std.specs.List.{flat_map, list_all}
use Rattle.std.proofs.Math.ListN.{get_or-map}
use Rattle.std.proofs.lemmas.Bool.{ltb-true}
use Rattle.std.proofs.lemmas.List.{length-map}
use Rattle.std.proofs.lemmas.List.Sums.{sum_by-cons}
use Rattle.std.proofs.lemmas.Simd.{map-map}
use Rattle.pr_base.specs.Numbers.{slices_of}
use Rattle.pr_control.specs.StateRows.{rows_in}
use Rattle.pr_control.proofs.StateRowLaws.{rows_in-flat_map, whole-flat_map}
use Rattle.pr_conf.specs.declared.pes.Pe.{Pe}
use Rattle.pr_conf.specs.declared.stages.Stage.{Stage}
use Rattle.pr_conf.specs.declared.configurations.Configuration.{Configuration}
use Rattle.pr_conf.specs.Shape.{Shape, OutputShape}
use Rattle.pr_conf.specs.Configuration.{shape_of, pes_of}
use Rattle.pr_conf.specs.Rules.{is_lawful_width, is_lawful_tap, is_lawful_output, bytes_in}
use Rattle.pr_conf.specs.StageMap.{step_of}
use Rattle.pr_conf.specs.Through.{steps_of}
use Rattle.pr_machine.proofs.Stages.{and_left, and_right}

abbrev inits : List Pe → List ℕ
inits pes = map (λ pe. pe.init) pes

abbrev stage_inits : {N : ℕ} → Stage N → List ℕ
stage_inits stage = inits stage.pes.items

long : {N : ℕ} (stage : Stage N) → length (stage_inits stage) ≡ N
long stage = length-map stage.pes.items (λ (pe : Pe). pe.init) ∙ omega (arith, stage.size, stage.pes.ok.0)

-- the rows of the first states have the stages' size
pub states_whole : (N P : ℕ) (conf : Configuration N P) (stages : List (Stage N)) (states shown : List ℕ) → stages ≡ conf.stages.items → states ≡ flat_map (λ s. map (λ pe. pe.init) s.pes.items) stages → shown ≡ states → length shown % N ≡ 0
states_whole N P conf stages states shown e f g =
    ap (λ b. length b % N) (g ∙ (f ∙ ap (flat_map (stage_inits {N = N})) e)) ∙ whole-flat_map (stage_inits {N = N}) N conf.stages.items (long {N = N})

store_is : (N P : ℕ) (conf : Configuration N P) (stages : List (Stage N)) (states shown : List ℕ) (store : List (List ℕ)) → stages ≡ conf.stages.items → states ≡ flat_map (λ s. map (λ pe. pe.init) s.pes.items) stages → shown ≡ states → store ≡ rows_in N shown → store ≡ map (stage_inits {N = N}) conf.stages.items
store_is N P conf stages states shown store e f g h =
    h ∙ (ap (rows_in N) (g ∙ (f ∙ ap (flat_map (stage_inits {N = N})) e)) ∙ rows_in-flat_map (stage_inits {N = N}) N conf.stages.items (omega (arith, conf.columns)) (long {N = N}))

pub states_count : (N P : ℕ) (conf : Configuration N P) (stages : List (Stage N)) (states shown : List ℕ) (store : List (List ℕ)) → stages ≡ conf.stages.items → states ≡ flat_map (λ s. map (λ pe. pe.init) s.pes.items) stages → shown ≡ states → store ≡ rows_in N shown → length store ≡ vec_len conf.stages
states_count N P conf stages states shown store e f g h =
    ap length (store_is N P conf stages states shown store e f g h) ∙ (length-map conf.stages.items (stage_inits {N = N}) ∙ omega (arith, conf.stages.ok.0))

pub init_is : (N P : ℕ) (c : Shape) (s : ℕ) → (steps_of N P c s).init ≡ inits (get_or c.stages s [])
unfolding step_of
init_is N P c s = refl

pub states_first : (N P : ℕ) (conf : Configuration N P) (stages : List (Stage N)) (states shown : List ℕ) (store : List (List ℕ)) → stages ≡ conf.stages.items → states ≡ flat_map (λ s. map (λ pe. pe.init) s.pes.items) stages → shown ≡ states → store ≡ rows_in N shown
    → (s : ℕ) → s < vec_len conf.stages → get_or store s [] ≡ (steps_of N P (shape_of conf) s).init
states_first N P conf stages states shown store e f g h s l =
    ap (λ rs. get_or rs s []) (store_is N P conf stages states shown store e f g h ∙ sym (map-map inits (pes_of {N = N}) conf.stages.items))
    ∙ (get_or-map inits (map (pes_of {N = N}) conf.stages.items) s [] ∙ sym (init_is N P (shape_of conf) s))

-- ---- a sample and a result have a byte at least
some_slices : (w : ℕ) → is_lawful_width w ≡ true → 1 ≤ slices_of w
some_slices w h = let l = ltb-true 0 w (and_left (ltb 0 w) (leb w 128) h) in omega arith

some_widths : (ws : List ℕ) → 0 < length ws → list_all is_lawful_width ws ≡ true → 1 ≤ bytes_in ws
some_widths [] h k = absurd (omega arith)
some_widths (w ∷ ws) h k = let s = some_slices w (and_left (is_lawful_width w) (list_all is_lawful_width ws) k) in let e = sum_by-cons slices_of w ws in omega arith

pub some_sample : (N P : ℕ) (conf : Configuration N P) (n : ℕ) → n ≡ bytes_in (shape_of conf).inputs → 1 ≤ n
some_sample N P conf n e =
    let ws = conf.inputs.items in
    let h = and_left (ltb 0 (length ws) && list_all is_lawful_width ws) (leb (bytes_in ws) N) conf.lawful_inputs in
    let s = some_widths ws (ltb-true 0 (length ws) (and_left (ltb 0 (length ws)) (list_all is_lawful_width ws) h)) (and_right (ltb 0 (length ws)) (list_all is_lawful_width ws) h) in
    omega arith

widths_lawful : (N P : ℕ) (os : List OutputShape) → list_all (is_lawful_output N P) os ≡ true → list_all is_lawful_width (map (λ o. o.width) os) ≡ true
widths_lawful N P [] h = refl
widths_lawful N P (o ∷ os) h =
    let one = and_left (is_lawful_output N P o) (list_all (is_lawful_output N P) os) h in
    let w : is_lawful_width o.width ≡ true = and_left (is_lawful_width o.width) _ (and_left _ (list_all (is_lawful_tap N P) o.taps) one) in
    ap (λ b. b && list_all is_lawful_width (map (λ x. x.width) os)) w ∙ widths_lawful N P os (and_right (is_lawful_output N P o) (list_all (is_lawful_output N P) os) h)

pub some_result : (N P : ℕ) (conf : Configuration N P) (n : ℕ) → n ≡ bytes_in (map (λ o. o.width) (shape_of conf).outputs) → 1 ≤ n
some_result N P conf n e =
    let os = (shape_of conf).outputs in
    let h = and_left (ltb 0 (length os)) (leb (length os) 64) (and_left (ltb 0 (length os) && leb (length os) 64) (list_all (is_lawful_output N P) os) conf.lawful_outputs) in
    let m = length-map os (λ (o : OutputShape). o.width) in
    let l = ltb-true 0 (length os) h in
    let s = some_widths (map (λ (o : OutputShape). o.width) os) (omega arith) (widths_lawful N P os (and_right (ltb 0 (length os) && leb (length os) 64) (list_all (is_lawful_output N P) os) conf.lawful_outputs)) in
    omega arith
