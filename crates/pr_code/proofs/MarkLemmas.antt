-- Checkpoints that are read.
use Rattle.std.proofs.Common.{◌≡◌, ℕ, ◌+◌, ◌*◌, ◌/◌, ◌%◌, ◌^◌, ◌<◌, ◌≤◌, ◌==◌, true, List, [], ◌∷◌, ◌++◌, length, drop, refl, sym, ap, ◌∙◌, arith, None, Some, length-drop, nat_le}
use Rattle.std.proofs.lemmas.Bool.{eqb-true, leb-true}
use Rattle.std.proofs.lemmas.List.{drop_all}
use Rattle.std.proofs.lemmas.Nat.{mod_low, shr_high}
use Rattle.pr_conf.specs.Rules.{IsLawful}
use Rattle.pr_code.specs.Spelling.{format_2, bytes_of_words, has_bytes}
use Rattle.pr_code.specs.Reading.{words_of_bytes, shape_in, inputs_part, outputs_part, stages_part}
use Rattle.pr_code.specs.Rules.{Broken, demand, first_broken, or_else, broken_end, rules_in, bad_from}
use Rattle.pr_code.specs.Marks.{mark_rules, mark_words, bad_mark, count_of, shape_marked, IsMark}
use Rattle.pr_code.proofs.BreakLemmas.{met}
use Rattle.pr_code.proofs.SoundLemmas.{none_both, none_or, enough}
use Rattle.pr_code.proofs.SoundStages.{AreWords, words-drop}
use Rattle.pr_code.proofs.SoundShapes.{shape_sound}
use Rattle.pr_code.proofs.DecodeLemmas.{whole_file, length-rules_in, inputs_long, outputs_long, stages_long}
use Rattle.pr_code.proofs.FileLemmas.{AreBytes, bytes_back, end_met}

record FrontSound (words : List ℕ) : Type 0 where
  pub spelled : words ≡ mark_words (count_of words) ++ drop 3 words
  pub count : count_of words ≤ 2 ^ 40

front_sound : (words : List ℕ) → AreWords words → first_broken (mark_rules words) 0 words ≡ None → FrontSound words
front_sound [] small h = absurd cc
front_sound (a ∷ []) small h = let e : 3 ≤ 1 = enough (mark_rules (a ∷ [])) 0 (a ∷ []) h in absurd (omega (arith, e))
front_sound (a ∷ b ∷ []) small h = let e : 3 ≤ 2 = enough (mark_rules (a ∷ b ∷ [])) 0 (a ∷ b ∷ []) h in absurd (omega (arith, e))
front_sound (a ∷ b ∷ c ∷ words) small h =
    let h0 = none_both 0 (demand 9 (a == 0x5049434B)) _ h in
    let h2 = none_both (0 + 1 + 1) (demand 10 (nat_le (b * 2 ^ 32 + c) (2 ^ 40))) None h0.1 in
    let mark : a ≡ 0x5049434B = eqb-true _ _ (met 9 _ h0.0) in
    let lt : c < 2 ^ 32 = small 2 in
    let high : (b * 2 ^ 32 + c) / 2 ^ 32 ≡ b = shr_high b 32 c lt in
    let low : (b * 2 ^ 32 + c) % 2 ^ 32 ≡ c = mod_low b 32 c lt in
    record {
      spelled = ap (λ x. x ∷ b ∷ c ∷ words) mark ∙ (ap (λ x. 0x5049434B ∷ x ∷ c ∷ words) (sym high) ∙ ap (λ x. 0x5049434B ∷ ((b * 2 ^ 32 + c) / 2 ^ 32) ∷ x ∷ words) (sym low));
      count = leb-true _ _ (met 10 _ h2.0);
    }

pub marked_shape : (N : ℕ) (bytes : List ℕ) → shape_in format_2.packed N (drop 3 (words_of_bytes bytes)) ≡ shape_marked N bytes
unfolding shape_marked
marked_shape N bytes = refl

-- a checkpoint of which no word breaks a rule
pub record MarkSound (N P : ℕ) (bytes : List ℕ) : Type 0 where
  pub lawful : IsLawful N P (shape_in true N (drop 3 (words_of_bytes bytes)))
  pub has : has_bytes (shape_in true N (drop 3 (words_of_bytes bytes))) ≡ true
  pub mark : IsMark N P (count_of (words_of_bytes bytes)) (shape_in true N (drop 3 (words_of_bytes bytes))) bytes

pub mark_whole : (N P : ℕ) (bytes : List ℕ) → 1 ≤ N → N ≤ 64 → 2 ≤ P → P ≤ 16 → AreBytes bytes → bad_mark N P bytes ≡ None → MarkSound N P bytes
unfolding bad_mark
mark_whole N P bytes n1 n64 p2 p16 fits h =
    let all = words_of_bytes bytes in
    let words = drop 3 all in
    let first = none_or (first_broken (mark_rules all) 0 all) (bad_from format_2 N P 3 bytes) h in
    let parts = none_or (whole_file format_2 N P 3 words) (broken_end (3 + length (rules_in format_2 N P words)) bytes) first.1 in
    let k = length (rules_in format_2 N P words) in
    let long : length bytes ≡ 4 * (3 + k) = eqb-true _ _ (end_met (length bytes == 4 * (3 + k)) _ parts.1) in
    let back = bytes_back bytes (3 + k) long fits in
    let front = front_sound all back.small first.0 in
    let sound = shape_sound format_2 N P 3 words n1 n64 p2 p16 parts.0 in
    let rules = length-rules_in format_2 N P words in
    let l = length-drop 3 all in
    let l0 = length-drop 3 words in
    let l1 = length-drop (inputs_long words) (inputs_part words) in
    let l2 = length-drop (outputs_long words) (outputs_part words) in
    let last : length (stages_part words) ≤ stages_long format_2 N words = omega (arith, back.count, rules, l, l0, l1, l2) in
    let ends = drop_all (stages_long format_2 N words) (stages_part words) last in
    let spelled = sound.spelled (words-drop 3 all back.small) ends in
    record {
      lawful = sound.lawful (omega arith);
      has = sound.bytes (words-drop 3 all back.small);
      mark = record {
        count_fits = front.count;
        widths = sound.within;
        spelled = sym back.same ∙ ap bytes_of_words (front.spelled ∙ ap (λ t. mark_words (count_of all) ++ t) spelled);
      };
    }

pub mark_sound : (N P : ℕ) (bytes : List ℕ) → 1 ≤ N → N ≤ 64 → 2 ≤ P → P ≤ 16 → AreBytes bytes → bad_mark N P bytes ≡ None → IsMark N P (count_of (words_of_bytes bytes)) (shape_in true N (drop 3 (words_of_bytes bytes))) bytes
mark_sound N P bytes n1 n64 p2 p16 fits h = (mark_whole N P bytes n1 n64 p2 p16 fits h).mark

pub count_refused : (N P : ℕ) (bytes : List ℕ) (x : Broken) → first_broken (mark_rules (words_of_bytes bytes)) 0 (words_of_bytes bytes) ≡ Some x → bad_mark N P bytes ≡ Some x
unfolding bad_mark
count_refused N P bytes x h = ap (λ t. or_else t (bad_from format_2 N P 3 bytes)) h

pub rest_of_mark : (N P : ℕ) (bytes : List ℕ) → first_broken (mark_rules (words_of_bytes bytes)) 0 (words_of_bytes bytes) ≡ None → bad_mark N P bytes ≡ bad_from format_2 N P 3 bytes
unfolding bad_mark
rest_of_mark N P bytes h = ap (λ t. or_else t (bad_from format_2 N P 3 bytes)) h
