-- A configuration that is read part by part.
use Rattle.std.proofs.Common.{◌≡◌, ℕ, zero, suc, ◌+◌, ◌*◌, ◌<◌, ◌≤◌, ◌==◌, Bool, true, List, ◌++◌, length, take, drop, slice_index, refl, sym, ap, ◌∙◌, arith, Option, None, Some, cond}
use Rattle.std.proofs.lemmas.List.{drop-drop, length-append}
use Rattle.pr_conf.specs.declared.pes.Pe.{Pe}
use Rattle.pr_conf.specs.Shape.{OutputShape, Shape}
use Rattle.pr_conf.specs.Rules.{bytes_in, site_of, are_lawful_inputs, are_lawful_outputs, are_lawful_stages, IsLawful}
use Rattle.pr_code.specs.declared.formats.Format.{Format}
use Rattle.pr_code.specs.Reading.{words_of_bytes, inputs_part, inputs_of, outputs_part, stages_part, outputs_of, outputs_length, stage_length, stages_of, stages_length}
use Rattle.pr_code.specs.Rules.{Rule, Broken, first_broken, or_else, broken_end, head_rules, input_rules, all_output_rules, stage_rules, stages_rules, rules_in, bad_from}
use Rattle.pr_code.proofs.BreakLemmas.{breaks_first, keeps_first}
use Rattle.pr_code.proofs.StageLemmas.{length-stage_rules}
use Rattle.pr_code.proofs.SoundShapes.{length-input_rules, length-all_output_rules}

pub length-stages_rules : (packed : Bool) (N P bus stage count : ℕ) (words : List ℕ) → length (stages_rules packed N P bus stage count words) ≡ stages_length packed N count words
length-stages_rules packed N P bus stage zero words = refl
length-stages_rules packed N P bus stage (suc count) words =
    length-append (stage_rules packed N (site_of N P bus stage) words) (stages_rules packed N P bus (stage + 1) count (drop (stage_length packed N words) words))
    ∙ (ap (λ k. k + length (stages_rules packed N P bus (stage + 1) count (drop (stage_length packed N words) words))) (length-stage_rules packed N (site_of N P bus stage) words)
    ∙ ap (λ k. stage_length packed N words + k) (length-stages_rules packed N P bus (stage + 1) count (drop (stage_length packed N words) words)))

abbrev shape : List ℕ → List OutputShape → List (List Pe) → Shape
shape a b c = record { inputs = a; outputs = b; stages = c }

-- the rules of the stages, and of the outputs and the stages
abbrev pub stages_of_file : Format → ℕ → ℕ → List ℕ → List Rule
stages_of_file f N P words = stages_rules f.packed N P (bytes_in (inputs_of words)) 0 (slice_index words 2) (stages_part words)

abbrev pub after_inputs : Format → ℕ → ℕ → List ℕ → List Rule
after_inputs f N P words = all_output_rules f N P (outputs_part words) ++ stages_of_file f N P words

abbrev pub inputs_long : List ℕ → ℕ
inputs_long words = 1 + slice_index (inputs_part words) 0

abbrev pub outputs_long : List ℕ → ℕ
outputs_long words = 1 + outputs_length (slice_index (outputs_part words) 0) (drop 1 (outputs_part words))

abbrev pub stages_long : Format → ℕ → List ℕ → ℕ
stages_long f N words = stages_length f.packed N (slice_index words 2) (stages_part words)

abbrev pub whole_file : Format → ℕ → ℕ → ℕ → List ℕ → Option Broken
whole_file f N P place words = first_broken (rules_in f N P words) place words

pub file_1 : (f : Format) (N P place : ℕ) (words : List ℕ) → first_broken (head_rules f N P) place words ≡ None → whole_file f N P place words ≡ first_broken (input_rules f N (inputs_part words) ++ after_inputs f N P words) (place + 3) (inputs_part words)
file_1 f N P place words h = keeps_first (head_rules f N P) (input_rules f N (inputs_part words) ++ after_inputs f N P words) place words h

pub file_2 : (f : Format) (N P place : ℕ) (words : List ℕ) → first_broken (head_rules f N P) place words ≡ None → first_broken (input_rules f N (inputs_part words)) (place + 3) (inputs_part words) ≡ None → whole_file f N P place words ≡ first_broken (after_inputs f N P words) (place + 3 + inputs_long words) (outputs_part words)
file_2 f N P place words h0 h1 =
    let long : length (input_rules f N (inputs_part words)) ≡ inputs_long words = length-input_rules f N (inputs_part words) in
    file_1 f N P place words h0 ∙ (keeps_first (input_rules f N (inputs_part words)) (after_inputs f N P words) (place + 3) (inputs_part words) h1
    ∙ ap (λ k. first_broken (after_inputs f N P words) (place + 3 + k) (drop k (inputs_part words))) long)

pub file_3 : (f : Format) (N P place : ℕ) (words : List ℕ) → first_broken (head_rules f N P) place words ≡ None → first_broken (input_rules f N (inputs_part words)) (place + 3) (inputs_part words) ≡ None → first_broken (all_output_rules f N P (outputs_part words)) (place + 3 + inputs_long words) (outputs_part words) ≡ None → whole_file f N P place words ≡ first_broken (stages_of_file f N P words) (place + 3 + inputs_long words + outputs_long words) (stages_part words)
file_3 f N P place words h0 h1 h2 =
    let long : length (all_output_rules f N P (outputs_part words)) ≡ outputs_long words = length-all_output_rules f N P (outputs_part words) in
    file_2 f N P place words h0 h1 ∙ (keeps_first (all_output_rules f N P (outputs_part words)) (stages_of_file f N P words) (place + 3 + inputs_long words) (outputs_part words) h2
    ∙ ap (λ k. first_broken (stages_of_file f N P words) (place + 3 + inputs_long words + k) (drop k (outputs_part words))) long)

pub length-rules_in : (f : Format) (N P : ℕ) (words : List ℕ) → length (rules_in f N P words) ≡ 3 + (inputs_long words + (outputs_long words + stages_long f N words))
length-rules_in f N P words =
    let e0 = length-append (head_rules f N P) (input_rules f N (inputs_part words) ++ after_inputs f N P words) in
    let e1 = length-append (input_rules f N (inputs_part words)) (after_inputs f N P words) in
    let e2 = length-append (all_output_rules f N P (outputs_part words)) (stages_of_file f N P words) in
    let i = length-input_rules f N (inputs_part words) in
    let o = length-all_output_rules f N P (outputs_part words) in
    let s = length-stages_rules f.packed N P (bytes_in (inputs_of words)) 0 (slice_index words 2) (stages_part words) in
    omega (arith, e0, e1, e2, i, o, s)

-- the file as a whole
pub file_broken : (f : Format) (N P place : ℕ) (bytes : List ℕ) (x : Broken) → whole_file f N P place (drop place (words_of_bytes bytes)) ≡ Some x → bad_from f N P place bytes ≡ Some x
file_broken f N P place bytes x h = ap (λ t. or_else t (broken_end (place + length (rules_in f N P (drop place (words_of_bytes bytes)))) bytes)) h

pub file_ended : (f : Format) (N P place end : ℕ) (bytes : List ℕ) → whole_file f N P place (drop place (words_of_bytes bytes)) ≡ None → end ≡ place + length (rules_in f N P (drop place (words_of_bytes bytes))) → bad_from f N P place bytes ≡ cond (length bytes == 4 * end) None (Some (record { rule = 7; place = end }))
file_ended f N P place end bytes h e =
    ap (λ t. or_else t (broken_end (place + length (rules_in f N P (drop place (words_of_bytes bytes)))) bytes)) h
    ∙ ap (λ k. broken_end k bytes) (sym e)

-- the same words, found at a place of the whole file
pub here : (R : List ℕ → List Rule) (at at' : ℕ) (words words' : List ℕ) (v : Option Broken) → at ≡ at' → words ≡ words' → first_broken (R words) at words ≡ v → first_broken (R words') at' words' ≡ v
here R at at' words words' v p e h = sym (ap (λ k. first_broken (R words) k words) p ∙ ap (λ t. first_broken (R t) at' t) e) ∙ h

pub inputs_place : (place : ℕ) (all : List ℕ) → drop (place + 3) all ≡ inputs_part (drop place all)
inputs_place place all = sym (drop-drop 3 place all)

pub outputs_place : (place at : ℕ) (all : List ℕ) → at ≡ place + 3 + inputs_long (drop place all) → drop at all ≡ outputs_part (drop place all)
outputs_place place at all e =
    let k = inputs_long (drop place all) in
    ap (λ j. drop j all) e ∙ (sym (drop-drop k (place + 3) all) ∙ ap (drop k) (inputs_place place all))

pub stages_place : (place at next : ℕ) (all : List ℕ) → at ≡ place + 3 + inputs_long (drop place all) → next ≡ at + outputs_long (drop place all) → drop next all ≡ stages_part (drop place all)
stages_place place at next all e e' =
    let k = outputs_long (drop place all) in
    ap (λ j. drop j all) e' ∙ (sym (drop-drop k at all) ∙ ap (drop k) (outputs_place place at all e))

pub inputs_refused : (f : Format) (N P place : ℕ) (bytes : List ℕ) → first_broken (head_rules f N P) place (drop place (words_of_bytes bytes)) ≡ None → (x : Broken) → first_broken (input_rules f N (drop (place + 3) (words_of_bytes bytes))) (place + 3) (drop (place + 3) (words_of_bytes bytes)) ≡ Some x → bad_from f N P place bytes ≡ Some x
inputs_refused f N P place bytes h0 x h =
    let all = words_of_bytes bytes in
    let w = drop place all in
    let there = here (input_rules f N) (place + 3) (place + 3) (drop (place + 3) all) (inputs_part w) (Some x) refl (inputs_place place all) h in
    file_broken f N P place bytes x (file_1 f N P place w h0 ∙ breaks_first (input_rules f N (inputs_part w)) (after_inputs f N P w) (place + 3) (inputs_part w) x there)

pub outputs_refused : (f : Format) (N P place at : ℕ) (bytes : List ℕ) → first_broken (head_rules f N P) place (drop place (words_of_bytes bytes)) ≡ None → first_broken (input_rules f N (drop (place + 3) (words_of_bytes bytes))) (place + 3) (drop (place + 3) (words_of_bytes bytes)) ≡ None → at ≡ place + 3 + inputs_long (drop place (words_of_bytes bytes)) → (x : Broken) → first_broken (all_output_rules f N P (drop at (words_of_bytes bytes))) at (drop at (words_of_bytes bytes)) ≡ Some x → bad_from f N P place bytes ≡ Some x
outputs_refused f N P place at bytes h0 h1 e x h =
    let all = words_of_bytes bytes in
    let w = drop place all in
    let in1 = here (input_rules f N) (place + 3) (place + 3) (drop (place + 3) all) (inputs_part w) None refl (inputs_place place all) h1 in
    let there = here (all_output_rules f N P) at (place + 3 + inputs_long w) (drop at all) (outputs_part w) (Some x) e (outputs_place place at all e) h in
    file_broken f N P place bytes x (file_2 f N P place w h0 in1 ∙ breaks_first (all_output_rules f N P (outputs_part w)) (stages_of_file f N P w) (place + 3 + inputs_long w) (outputs_part w) x there)

-- the rules of the stages that were found
pub stages_there : (f : Format) (N P place at next bus count : ℕ) (bytes : List ℕ) (v : Option Broken) → first_broken (head_rules f N P) place (drop place (words_of_bytes bytes)) ≡ None → first_broken (input_rules f N (drop (place + 3) (words_of_bytes bytes))) (place + 3) (drop (place + 3) (words_of_bytes bytes)) ≡ None → at ≡ place + 3 + inputs_long (drop place (words_of_bytes bytes)) → first_broken (all_output_rules f N P (drop at (words_of_bytes bytes))) at (drop at (words_of_bytes bytes)) ≡ None → next ≡ at + outputs_long (drop place (words_of_bytes bytes)) → bus ≡ bytes_in (inputs_of (drop place (words_of_bytes bytes))) → count ≡ slice_index (drop place (words_of_bytes bytes)) 2 → first_broken (stages_rules f.packed N P bus 0 count (drop next (words_of_bytes bytes))) next (drop next (words_of_bytes bytes)) ≡ v → whole_file f N P place (drop place (words_of_bytes bytes)) ≡ v
stages_there f N P place at next bus count bytes v h0 h1 e h2 e' b n h =
    let all = words_of_bytes bytes in
    let w = drop place all in
    let in1 = here (input_rules f N) (place + 3) (place + 3) (drop (place + 3) all) (inputs_part w) None refl (inputs_place place all) h1 in
    let in2 = here (all_output_rules f N P) at (place + 3 + inputs_long w) (drop at all) (outputs_part w) None e (outputs_place place at all e) h2 in
    let there = here (stages_rules f.packed N P bus 0 count) next (place + 3 + inputs_long w + outputs_long w) (drop next all) (stages_part w) v (e' ∙ ap (λ k. k + outputs_long w) e) (stages_place place at next all e e') h in
    file_3 f N P place w h0 in1 in2 ∙ (sym (ap (λ k. first_broken (stages_rules f.packed N P k 0 count (stages_part w)) (place + 3 + inputs_long w + outputs_long w) (stages_part w)) b ∙ ap (λ k. first_broken (stages_rules f.packed N P (bytes_in (inputs_of w)) 0 k (stages_part w)) (place + 3 + inputs_long w + outputs_long w) (stages_part w)) n) ∙ there)

-- where the file ends
pub end_is : (f : Format) (N P place at next end count : ℕ) (bytes : List ℕ) → at ≡ place + 3 + inputs_long (drop place (words_of_bytes bytes)) → next ≡ at + outputs_long (drop place (words_of_bytes bytes)) → count ≡ slice_index (drop place (words_of_bytes bytes)) 2 → end ≡ next + stages_length f.packed N count (drop next (words_of_bytes bytes)) → end ≡ place + length (rules_in f N P (drop place (words_of_bytes bytes)))
end_is f N P place at next end count bytes e e' n h =
    let all = words_of_bytes bytes in
    let w = drop place all in
    let long = length-rules_in f N P w in
    let stages : stages_length f.packed N count (drop next all) ≡ stages_long f N w = ap (λ k. stages_length f.packed N k (drop next all)) n ∙ ap (stages_length f.packed N (slice_index w 2)) (stages_place place at next all e e') in
    omega (arith, e, e', h, long, stages)

shape_path : (a a' : List ℕ) (b b' : List OutputShape) (c c' : List (List Pe)) → a ≡ a' → b ≡ b' → c ≡ c' → shape a b c ≡ shape a' b' c'
shape_path a a' b b' c c' e0 e1 e2 = ap (λ x. shape x b c) e0 ∙ (ap (λ y. shape a' y c) e1 ∙ ap (λ z. shape a' b' z) e2)

-- the place after the outputs
pub next_is : (place at next : ℕ) (all : List ℕ) → at ≡ place + 3 + inputs_long (drop place all) → next ≡ at + (1 + outputs_length (slice_index (drop at all) 0) (drop 1 (drop at all))) → next ≡ at + outputs_long (drop place all)
next_is place at next all e h = h ∙ ap (λ t. at + (1 + outputs_length (slice_index t 0) (drop 1 t))) (outputs_place place at all e)

pub at_is : (place len : ℕ) (all : List ℕ) → len ≡ slice_index (drop (place + 3) all) 0 → place + 3 + (1 + len) ≡ place + 3 + inputs_long (drop place all)
at_is place len all e = ap (λ k. place + 3 + (1 + k)) (e ∙ ap (λ t. slice_index t 0) (inputs_place place all))

pub inputs_are : (place : ℕ) (all inputs : List ℕ) → inputs ≡ take (slice_index (drop (place + 3) all) 0) (drop 1 (drop (place + 3) all)) → inputs ≡ inputs_of (drop place all)
inputs_are place all inputs h = h ∙ ap (λ t. take (slice_index t 0) (drop 1 t)) (inputs_place place all)

pub outputs_are : (place at : ℕ) (all : List ℕ) (outputs : List OutputShape) → at ≡ place + 3 + inputs_long (drop place all) → outputs ≡ outputs_of (slice_index (drop at all) 0) (drop 1 (drop at all)) → outputs ≡ outputs_of (slice_index (outputs_part (drop place all)) 0) (drop 1 (outputs_part (drop place all)))
outputs_are place at all outputs e h = h ∙ ap (λ t. outputs_of (slice_index t 0) (drop 1 t)) (outputs_place place at all e)

pub stages_are : (packed : Bool) (N place at next count : ℕ) (all : List ℕ) (stages : List (List Pe)) → at ≡ place + 3 + inputs_long (drop place all) → next ≡ at + outputs_long (drop place all) → count ≡ slice_index (drop place all) 2 → stages ≡ stages_of packed N count (drop next all) → stages ≡ stages_of packed N (slice_index (drop place all) 2) (stages_part (drop place all))
stages_are packed N place at next count all stages e e' n h = h ∙ (ap (λ k. stages_of packed N k (drop next all)) n ∙ ap (stages_of packed N (slice_index (drop place all) 2)) (stages_place place at next all e e'))

pub same_shape : (a : List ℕ) (b : List OutputShape) (c : List (List Pe)) (s : Shape) → a ≡ s.inputs → b ≡ s.outputs → c ≡ s.stages → record { inputs = a; outputs = b; stages = c } ≡ s
same_shape a b c s e0 e1 e2 = shape_path a s.inputs b s.outputs c s.stages e0 e1 e2

-- what the parts keep, where the shape is lawful
pub record PartsLawful (N P : ℕ) (inputs : List ℕ) (outputs : List OutputShape) (stages : List (List Pe)) : Type 0 where
  pub some : 0 < length stages
  pub few : length stages ≤ 32768
  pub inputs_lawful : are_lawful_inputs N inputs ≡ true
  pub outputs_lawful : are_lawful_outputs N P outputs ≡ true
  pub stages_lawful : are_lawful_stages N P (bytes_in inputs) 0 stages ≡ true

pub parts_lawful : (N P : ℕ) (a : List ℕ) (b : List OutputShape) (c : List (List Pe)) (s : Shape) → a ≡ s.inputs → b ≡ s.outputs → c ≡ s.stages → IsLawful N P s → PartsLawful N P a b c
parts_lawful N P a b c s e0 e1 e2 l = record {
  some = rw e2 l.some;
  few = rw e2 l.few;
  inputs_lawful = rw e0 l.inputs;
  outputs_lawful = rw e1 l.outputs;
  stages_lawful = rw (e0, e2) l.stages;
}
