-- How long the files of configurations and checkpoints are on the base fabric.
use Rattle.std.proofs.Common.{◌≡◌, ◌<◌, ◌≤◌, ℕ, ◌+◌, ◌*◌, ◌==◌, ◌&&◌, true, false, nat_lt, nat_le, List, [], ◌∷◌, ◌++◌, length, ap, ◌∙◌, if◌then◌else◌, arith}
use Rattle.std.specs.List.{flat_map, list_all}
use Rattle.std.proofs.lemmas.Bool.{eqb-true, leb-true, ltb-true}
use Rattle.std.proofs.lemmas.List.{length-append, length-map}
use Rattle.std.proofs.lemmas.List.Concat.{flat_map-cons}
use Rattle.std.proofs.lemmas.List.Sums.{sum_by-cons}
use Rattle.pr_base.specs.Numbers.{slices_of}
use Rattle.pr_conf.specs.declared.pes.Pe.{Pe}
use Rattle.pr_conf.specs.Shape.{Shape, OutputShape}
use Rattle.pr_conf.specs.Rules.{IsLawful, is_lawful_width, is_lawful_output, is_lawful_tap, bytes_in, are_lawful_pes, are_lawful_stages, site_of}
use Rattle.pr_code.specs.Spelling.{bytes_of_words, words_of, is_set, pe_words, set_words, stage_words, output_words, tap_word}
use Rattle.pr_code.specs.Marks.{mark_words, mark_of}
use Rattle.pr_code.proofs.FileLemmas.{cons_bytes, nil_bytes}
use Rattle.pr_code.proofs.WritingLemmas.{both}

-- ---- words and bytes
bytes_long : (words : List ℕ) → length (bytes_of_words words) ≡ 4 * length words
bytes_long [] = ap length nil_bytes
bytes_long (w ∷ words) = ap length (cons_bytes w words) ∙ omega (arith, bytes_long words)

-- ---- stages
set_few : (pe : Pe) → length (set_words pe) ≤ 4
unfolding pe_words
set_few pe = elim (is_set pe) as (λ t. length (if t then pe_words pe else []) ≤ 4) [ true ↦ omega arith | false ↦ omega arith ]

pes_few : (pes : List Pe) → length (flat_map set_words pes) ≤ 4 * length pes
pes_few [] = omega arith
pes_few (pe ∷ pes) = omega (arith, ap length (flat_map-cons set_words pe pes), length-append (set_words pe) (flat_map set_words pes), set_few pe, pes_few pes)

stage_few : (pes : List Pe) → length pes ≡ 16 → length (stage_words true 16 pes) ≤ 65
stage_few pes h = omega (arith, pes_few pes, h)

stages_few : (P bus k : ℕ) (stages : List (List Pe)) → are_lawful_stages 16 P bus k stages ≡ true → length (flat_map (stage_words true 16) stages) ≤ 65 * length stages
stages_few P bus k [] h = omega arith
stages_few P bus k (pes ∷ stages) h =
    let counted = length pes == 16 in
    let lawful = are_lawful_pes (site_of 16 P bus k) pes in
    let rest = are_lawful_stages 16 P bus (k + 1) stages in
    let p = both (counted && lawful) rest h in
    let q = both counted lawful p.0 in
    omega (arith, ap length (flat_map-cons (stage_words true 16) pes stages), length-append (stage_words true 16 pes) (flat_map (stage_words true 16) stages), stage_few pes (eqb-true _ _ q.0), stages_few P bus (k + 1) stages p.1)

-- ---- inputs and outputs
inputs_few : (inputs : List ℕ) → list_all is_lawful_width inputs ≡ true → length inputs ≤ bytes_in inputs
inputs_few [] h = omega arith
inputs_few (w ∷ inputs) h =
    let p = both (is_lawful_width w) (list_all is_lawful_width inputs) h in
    let some = ltb-true 0 w (both (nat_lt 0 w) (nat_le w 128) p.0).0 in
    omega (arith, sum_by-cons slices_of w inputs, inputs_few inputs p.1, some)

output_few : (P : ℕ) (o : OutputShape) → is_lawful_output 16 P o ≡ true → length (output_words o) ≤ 17
output_few P o h =
    let width = is_lawful_width o.width in
    let counted = length o.taps == slices_of o.width in
    let p = both (width && counted) (list_all (is_lawful_tap 16 P) o.taps) h in
    let q = both width counted p.0 in
    let most = leb-true o.width 128 (both (nat_lt 0 o.width) (nat_le o.width 128) q.0).1 in
    omega (arith, length-map o.taps tap_word, eqb-true _ _ q.1, most)

outputs_few : (P : ℕ) (outputs : List OutputShape) → list_all (is_lawful_output 16 P) outputs ≡ true → length (flat_map output_words outputs) ≤ 17 * length outputs
outputs_few P [] h = omega arith
outputs_few P (o ∷ outputs) h =
    let p = both (is_lawful_output 16 P o) (list_all (is_lawful_output 16 P) outputs) h in
    omega (arith, ap length (flat_map-cons output_words o outputs), length-append (output_words o) (flat_map output_words outputs), output_few P o p.0, outputs_few P outputs p.1)

-- ---- files
parts_long : (inputs taps stages : List ℕ) (n : ℕ) → length (inputs ++ n ∷ taps ++ stages) ≡ length inputs + 1 + length taps + length stages
parts_long inputs taps stages n = omega (arith, length-append (inputs ++ n ∷ taps) stages, length-append inputs (n ∷ taps))

words_few : (c : Shape) → IsLawful 16 8 c → length (words_of 16 8 c) ≤ 2131200
words_few c l =
    let some_inputs = nat_lt 0 (length c.inputs) in
    let widths = list_all is_lawful_width c.inputs in
    let i = both (some_inputs && widths) (nat_le (bytes_in c.inputs) 16) l.inputs in
    let some_outputs = nat_lt 0 (length c.outputs) in
    let few_outputs = nat_le (length c.outputs) 64 in
    let o = both (some_outputs && few_outputs) (list_all (is_lawful_output 16 8) c.outputs) l.outputs in
    let inputs = leb-true (bytes_in c.inputs) 16 i.1 in
    let outputs = leb-true (length c.outputs) 64 (both some_outputs few_outputs o.0).1 in
    omega (
      arith,
      inputs_few c.inputs (both some_inputs widths i.0).1,
      inputs,
      outputs,
      outputs_few 8 c.outputs o.1,
      stages_few 8 (bytes_in c.inputs) 0 c.stages l.stages,
      l.few,
      parts_long c.inputs (flat_map output_words c.outputs) (flat_map (stage_words true 16) c.stages) (length c.outputs),
    )

pub file_short : (c : Shape) → IsLawful 16 8 c → length (bytes_of_words (words_of 16 8 c)) < 16777216
file_short c l = omega (arith, bytes_long (words_of 16 8 c), words_few c l)

pub mark_short : (count : ℕ) (c : Shape) → IsLawful 16 8 c → length (mark_of 16 8 count c) < 16777216
mark_short count c l = omega (arith, bytes_long (mark_words count ++ words_of 16 8 c), length-append (mark_words count) (words_of 16 8 c), words_few c l)
