-- A checkpoint breaks no rule, and reads as what it is of.
use Rattle.std.proofs.Common.{◌≡◌, ℕ, ◌+◌, ◌*◌, ◌/◌, ◌%◌, ◌^◌, ◌≤◌, ◌==◌, ◌&&◌, true, List, [], ◌∷◌, ◌++◌, length, drop, refl, ap, ◌∙◌, arith, None, Some, cond, eq-eqb, nat_le, nat_lt}
use Rattle.std.specs.List.{list_all}
use Rattle.std.proofs.lemmas.Bool.{lt-ltb, le-leb}
use Rattle.std.proofs.lemmas.List.{length-map}
use Rattle.pr_base.specs.Numbers.{slices_of}
use Rattle.pr_conf.specs.declared.configurations.Configuration.{Configuration}
use Rattle.pr_conf.specs.Configuration.{shape_of, pes_of}
use Rattle.pr_conf.specs.Shape.{OutputShape, Shape}
use Rattle.pr_conf.specs.Rules.{is_lawful_tap, is_lawful_width, is_lawful_output, bytes_in, IsLawful}
use Rattle.pr_code.specs.Spelling.{format_2, words_of, has_bytes, are_widths_within}
use Rattle.pr_code.specs.Reading.{words_of_bytes, shape_in}
use Rattle.pr_code.specs.Rules.{demand, first_broken, or_else, broken_end, rules_in, bad_from}
use Rattle.pr_code.specs.Marks.{mark_rules, mark_words, mark_of, bad_mark, count_of, IsMark}
use Rattle.pr_code.proofs.WritingLemmas.{both}
use Rattle.pr_code.proofs.AgainLemmas.{and_true}
use Rattle.pr_code.proofs.AgainStages.{is_small, small_append}
use Rattle.pr_code.proofs.AgainShapes.{shape_again, cons_none}
use Rattle.pr_code.proofs.AgainFiles.{words_back}

pub record MarkAgain (N P count : ℕ) (c : Shape) (bytes : List ℕ) : Type 0 where
  pub none : bad_mark N P bytes ≡ None
  pub counts : count_of (words_of_bytes bytes) ≡ count
  pub reads : shape_in true N (drop 3 (words_of_bytes bytes)) ≡ c

pub mark_again : (N P count : ℕ) (c : Shape) (bytes : List ℕ) → IsLawful N P c → has_bytes c ≡ true → IsMark N P count c bytes → MarkAgain N P count c bytes
unfolding bad_mark
mark_again N P count c bytes l byte file =
    let W = words_of N P c in
    let all = mark_words count ++ W in
    let few = file.count_fits in
    let again = shape_again format_2 N P c l byte file.widths in
    let hi : nat_lt (count / 2 ^ 32) (2 ^ 32) ≡ true = lt-ltb _ _ (omega (arith, few)) in
    let lo : nat_lt (count % 2 ^ 32) (2 ^ 32) ≡ true = lt-ltb _ _ (omega arith) in
    let small : list_all is_small (mark_words count) ≡ true = and_true _ _ refl (and_true _ _ hi (and_true _ true lo refl)) in
    let back = words_back all (small_append (mark_words count) W small (again.small (omega arith))) in
    let words : words_of_bytes bytes ≡ all = ap words_of_bytes file.spelled ∙ back.same in
    let long : length bytes ≡ 4 * length all = ap length file.spelled ∙ back.long in
    let sum : count / 2 ^ 32 * 2 ^ 32 + count % 2 ^ 32 ≡ count = omega arith in
    let fits : nat_le (count / 2 ^ 32 * 2 ^ 32 + count % 2 ^ 32) (2 ^ 40) ≡ true = le-leb _ _ (omega (arith, few, sum)) in
    let front : first_broken (mark_rules all) 0 all ≡ None =
    cons_none 0 0x5049434B (λ w. demand 9 (w == 0x5049434B)) _ refl
    (cons_none (0 + 1) (count / 2 ^ 32) (λ w. None) _ refl
    (cons_none (0 + 1 + 1) (count % 2 ^ 32) (λ w. demand 10 (nat_le (count / 2 ^ 32 * 2 ^ 32 + w) (2 ^ 40))) None (ap (demand 10) fits) refl)) in
    let k = length (rules_in format_2 N P W) in
    let ends : (length bytes == 4 * (3 + k)) ≡ true = eq-eqb _ _ (omega (arith, long, again.long)) in
    let rest : bad_from format_2 N P 3 bytes ≡ None =
    ap (λ t. or_else (first_broken (rules_in format_2 N P (drop 3 t)) 3 (drop 3 t)) (broken_end (3 + length (rules_in format_2 N P (drop 3 t))) bytes)) words
    ∙ (ap (λ t. or_else t (broken_end (3 + k) bytes)) (again.none 3) ∙ ap (λ b. cond b None (Some (record { rule = 7; place = 3 + k }))) ends) in
    record {
      none = ap (λ t. or_else (first_broken (mark_rules t) 0 t) (bad_from format_2 N P 3 bytes)) words ∙ (ap (λ t. or_else t (bad_from format_2 N P 3 bytes)) front ∙ rest);
      counts = ap count_of words ∙ sum;
      reads = ap (λ t. shape_in true N (drop 3 t)) words ∙ again.again;
    }

-- ---- what is written
all_within : (ws : List ℕ) → list_all is_lawful_width ws ≡ true → list_all (λ w. nat_le w 128) ws ≡ true
all_within [] h = refl
all_within (w ∷ ws) h =
    let p = both (is_lawful_width w) (list_all is_lawful_width ws) h in
    and_true (nat_le w 128) (list_all (λ w. nat_le w 128) ws) (both (nat_lt 0 w) (nat_le w 128) p.0).1 (all_within ws p.1)

outputs_within : (N P : ℕ) (outputs : List OutputShape) → list_all (is_lawful_output N P) outputs ≡ true → list_all (λ (o : OutputShape). nat_le o.width 128) outputs ≡ true
outputs_within N P [] h = refl
outputs_within N P (o ∷ outputs) h =
    let law = both (is_lawful_output N P o) (list_all (is_lawful_output N P) outputs) h in
    let taps = both (is_lawful_width o.width && (length o.taps == slices_of o.width)) (list_all (is_lawful_tap N P) o.taps) law.0 in
    let w = both (is_lawful_width o.width) (length o.taps == slices_of o.width) taps.0 in
    and_true (nat_le o.width 128) (list_all (λ (q : OutputShape). nat_le q.width 128) outputs) (both (nat_lt 0 o.width) (nat_le o.width 128) w.0).1 (outputs_within N P outputs law.1)

-- the widths of a lawful configuration fit
lawful_within : (N P : ℕ) (c : Shape) → IsLawful N P c → are_widths_within 128 c ≡ true
lawful_within N P c l =
    let inputs = both (nat_lt 0 (length c.inputs) && list_all is_lawful_width c.inputs) (nat_le (bytes_in c.inputs) N) l.inputs in
    let widths = both (nat_lt 0 (length c.inputs)) (list_all is_lawful_width c.inputs) inputs.0 in
    let outputs = both (nat_lt 0 (length c.outputs) && nat_le (length c.outputs) 64) (list_all (is_lawful_output N P) c.outputs) l.outputs in
    and_true (list_all (λ w. nat_le w 128) c.inputs) (list_all (λ (o : OutputShape). nat_le o.width 128) c.outputs) (all_within c.inputs widths.1) (outputs_within N P c.outputs outputs.1)

-- a configuration is lawful
type_lawful : {N P : ℕ} (conf : Configuration N P) → IsLawful N P (shape_of conf)
type_lawful {N} {P} conf =
    let stages = length-map conf.stages.items (pes_of {N = N}) in
    record {
      columns = conf.columns;
      most_columns = conf.most_columns;
      registers = conf.registers;
      most_registers = conf.most_registers;
      some = omega (arith, stages, conf.some, conf.stages.ok.0);
      few = omega (arith, stages, conf.few, conf.stages.ok.0);
      inputs = conf.lawful_inputs;
      outputs = conf.lawful_outputs;
      stages = conf.lawful_stages;
    }

pub written_mark : {N P : ℕ} (conf : Configuration N P) (count : ℕ) (bytes : List ℕ) → count ≤ 2 ^ 40 → bytes ≡ mark_of N P count (shape_of conf) → IsMark N P count (shape_of conf) bytes
written_mark {N} {P} conf count bytes few is = record { count_fits = few; widths = lawful_within N P (shape_of conf) (type_lawful conf); spelled = is }

pub written_good : {N P : ℕ} (conf : Configuration N P) (count : ℕ) (bytes : List ℕ) → count ≤ 2 ^ 40 → has_bytes (shape_of conf) ≡ true → bytes ≡ mark_of N P count (shape_of conf) → bad_mark N P bytes ≡ None
written_good {N} {P} conf count bytes few has is = (mark_again N P count (shape_of conf) bytes (type_lawful conf) has (written_mark conf count bytes few is)).none
