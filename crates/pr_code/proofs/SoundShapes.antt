-- Words that break no rule are the words of a configuration.
use Rattle.std.proofs.Common.{◌≡◌, ℕ, zero, suc, ◌+◌, ◌*◌, ◌/◌, ◌%◌, ◌<◌, ◌≤◌, ◌==◌, ◌&&◌, Bool, true, false, List, [], ◌∷◌, ◌++◌, length, take, drop, map, replicate, slice_index, refl, sym, ap, ◌∙◌, arith, None, cond, nat_lt, nat_le, append_assoc, fold}
use Rattle.std.specs.List.{flat_map, list_all}
use Rattle.std.proofs.lemmas.Bool.{ltb-true, lt-ltb, eqb-true, eq-eqb, leb-true, le-leb}
use Rattle.std.proofs.lemmas.List.{drop-drop, length-append, append-nil}
use Rattle.pr_base.specs.Numbers.{slices_of}
use Rattle.pr_conf.specs.declared.outputs.Tap.{Tap}
use Rattle.pr_conf.specs.Shape.{OutputShape}
use Rattle.pr_conf.specs.Rules.{is_lawful_tap, is_lawful_width, is_lawful_output, bytes_in, IsLawful}
use Rattle.pr_code.specs.declared.formats.Format.{Format}
use Rattle.pr_code.specs.Spelling.{tap_word, output_words, stage_words, words_in, head_words, has_tap_byte, have_tap_bytes, has_bytes, are_widths_within}
use Rattle.pr_code.specs.Reading.{tap_of, output_of, output_length, outputs_of, outputs_length, inputs_part, inputs_of, outputs_part, stages_part, shape_in, stages_of, stages_length}
use Rattle.pr_code.specs.Rules.{Rule, demand, first_broken, is_count, count_rule, is_tap, tap_rule, head_rules, width_rules, input_rules, output_rules, outputs_rules, all_output_rules, stages_rules, rules_in}
use Rattle.pr_code.proofs.WritingLemmas.{both}
use Rattle.pr_code.proofs.BreakLemmas.{met}
use Rattle.pr_code.proofs.ReadLemmas.{length-output_rules}
use Rattle.pr_code.proofs.SoundLemmas.{none_both, none_split_at, enough}
use Rattle.pr_code.proofs.SoundStages.{AreWords, words-drop, stages_sound}

-- ---- counts

pub count_sound : (most n : ℕ) → is_count most n ≡ true → (0 < n) × (n ≤ most)
count_sound most n h =
    let parts = both (nat_lt 0 n) (nat_le n most) h in
    (ltb-true _ _ parts.0, leb-true _ _ parts.1)

-- ---- inputs

pub length-width_rules : (widest N n used : ℕ) (words : List ℕ) → length (width_rules widest N n used words) ≡ n
length-width_rules widest N zero used words = refl
length-width_rules widest N (suc n) used words = ap suc (length-width_rules widest N n (used + slices_of (slice_index words 0)) (drop 1 words))

pub record WidthsSound (widest N n used : ℕ) (words : List ℕ) : Type 0 where
  pub count : length (take n words) ≡ n
  pub lawful : widest ≤ 128 → list_all is_lawful_width (take n words) ≡ true
  pub within : list_all (λ w. nat_le w widest) (take n words) ≡ true
  pub bytes : used ≤ N → fold (λ a x. a + slices_of x) used (take n words) ≤ N
  pub spelled : words ≡ take n words ++ drop n words

pub widths_sound : (widest N n used place : ℕ) (words : List ℕ) → first_broken (width_rules widest N n used words) place words ≡ None → WidthsSound widest N n used words
widths_sound widest N zero used place words h = record { count = refl; lawful = λ few. refl; within = refl; bytes = λ few. few; spelled = refl }
widths_sound widest N (suc n) used place [] h = absurd cc
widths_sound widest N (suc n) used place (w ∷ words) h =
    let parts = none_both place (demand 4 (is_count widest w && nat_le (used + slices_of w) N)) (first_broken (width_rules widest N n (used + slices_of w) words) (place + 1) words) h in
    let tests = both (is_count widest w) (nat_le (used + slices_of w) N) (met 4 _ parts.0) in
    let count = count_sound widest w tests.0 in
    let rest = widths_sound widest N n (used + slices_of w) (place + 1) words parts.1 in
    record {
      count = ap suc rest.count;
      lawful = λ few. rw (lt-ltb 0 w count.0, le-leb w 128 (omega (arith, count.1, few)), rest.lawful few) refl;
      within = rw (le-leb w widest count.1, rest.within) refl;
      bytes = λ few. rest.bytes (leb-true _ _ tests.1);
      spelled = ap (λ t. w ∷ t) rest.spelled;
    }

-- ---- outputs

tap_bytes : (w : ℕ) → has_tap_byte (tap_of w) ≡ true
tap_bytes w = tap_byte_by (w / 0x1000 == 1) w
  where
    tap_byte_by : (b : Bool) (w : ℕ) → has_tap_byte (cond b (Tap.Reg (w / 16 % 256) (w % 16)) (Tap.Const (w % 256))) ≡ true
    tap_byte_by true w = refl
    tap_byte_by false w = lt-ltb _ _ (omega arith)

pub record TapsSound (N P n : ℕ) (words : List ℕ) : Type 0 where
  pub count : length (map tap_of (take n words)) ≡ n
  pub lawful : list_all (is_lawful_tap N P) (map tap_of (take n words)) ≡ true
  pub bytes : list_all has_tap_byte (map tap_of (take n words)) ≡ true
  pub spelled : words ≡ map tap_word (map tap_of (take n words)) ++ drop n words

pub taps_sound : (N P n place : ℕ) (words : List ℕ) → first_broken (replicate n (tap_rule N P)) place words ≡ None → TapsSound N P n words
taps_sound N P zero place words h = record { count = refl; lawful = refl; bytes = refl; spelled = refl }
taps_sound N P (suc n) place [] h = absurd cc
taps_sound N P (suc n) place (w ∷ words) h =
    let parts = none_both place (tap_rule N P w) (first_broken (replicate n (tap_rule N P)) (place + 1) words) h in
    let tap = both (tap_word (tap_of w) == w) (is_lawful_tap N P (tap_of w)) (met 5 (is_tap N P w) parts.0) in
    let same : tap_word (tap_of w) ≡ w = eqb-true _ _ tap.0 in
    let rest = taps_sound N P n (place + 1) words parts.1 in
    record {
      count = ap suc rest.count;
      lawful = rw (tap.1, rest.lawful) refl;
      bytes = rw (tap_bytes w, rest.bytes) refl;
      spelled = rw same (ap (λ t. w ∷ t) rest.spelled);
    }

pub record OutputSound (widest N P : ℕ) (words : List ℕ) : Type 0 where
  pub lawful : widest ≤ 128 → is_lawful_output N P (output_of words) ≡ true
  pub within : nat_le (output_of words).width widest ≡ true
  pub bytes : have_tap_bytes (output_of words) ≡ true
  pub spelled : words ≡ output_words (output_of words) ++ drop (output_length words) words

pub output_sound : (widest N P place : ℕ) (words : List ℕ) → first_broken (output_rules widest N P words) place words ≡ None → OutputSound widest N P words
output_sound widest N P place [] h = absurd cc
output_sound widest N P place (w ∷ words) h =
    let parts = none_both place (count_rule widest w) (first_broken (replicate (slices_of w) (tap_rule N P)) (place + 1) words) h in
    let count = count_sound widest w (met 4 (is_count widest w) parts.0) in
    let taps = taps_sound N P (slices_of w) (place + 1) words parts.1 in
    let one : 1 + slices_of w ≡ suc (slices_of w) = omega arith in
    record {
      lawful = λ few. rw (lt-ltb 0 w count.0, le-leb w 128 (omega (arith, count.1, few)), eq-eqb _ _ taps.count, taps.lawful) refl;
      within = le-leb w widest count.1;
      bytes = taps.bytes;
      spelled = rw one (ap (λ t. w ∷ t) taps.spelled);
    }

pub record OutputsSound (widest N P n : ℕ) (words : List ℕ) : Type 0 where
  pub count : length (outputs_of n words) ≡ n
  pub lawful : widest ≤ 128 → list_all (is_lawful_output N P) (outputs_of n words) ≡ true
  pub within : list_all (λ (o : OutputShape). nat_le o.width widest) (outputs_of n words) ≡ true
  pub bytes : list_all have_tap_bytes (outputs_of n words) ≡ true
  pub spelled : words ≡ flat_map output_words (outputs_of n words) ++ drop (outputs_length n words) words

pub outputs_sound : (widest N P n place : ℕ) (words : List ℕ) → first_broken (outputs_rules widest N P n words) place words ≡ None → OutputsSound widest N P n words
outputs_sound widest N P zero place words h = record { count = refl; lawful = λ few. refl; within = refl; bytes = refl; spelled = refl }
outputs_sound widest N P (suc n) place words h =
    let k = output_length words in
    let later = drop k words in
    let long : length (output_rules widest N P words) ≡ k = length-output_rules widest N P words in
    let parts = none_split_at (output_rules widest N P words) (outputs_rules widest N P n later) k place words long h in
    let first = output_sound widest N P place words parts.0 in
    let rest = outputs_sound widest N P n (place + k) later parts.1 in
    let far : drop (outputs_length n later) later ≡ drop (k + outputs_length n later) words = drop-drop (outputs_length n later) k words in
    record {
      count = ap suc rest.count;
      lawful = λ few. rw (first.lawful few, rest.lawful few) refl;
      within = rw (first.within, rest.within) refl;
      bytes = rw (first.bytes, rest.bytes) refl;
      spelled =
          first.spelled ∙ (ap (λ t. output_words (output_of words) ++ t) rest.spelled
          ∙ (sym (append_assoc (output_words (output_of words)) (flat_map output_words (outputs_of n later)) (drop (outputs_length n later) later))
          ∙ ap (λ t. (output_words (output_of words) ++ flat_map output_words (outputs_of n later)) ++ t) far));
    }

pub length-outputs_rules : (widest N P n : ℕ) (words : List ℕ) → length (outputs_rules widest N P n words) ≡ outputs_length n words
length-outputs_rules widest N P zero words = refl
length-outputs_rules widest N P (suc n) words =
    length-append (output_rules widest N P words) (outputs_rules widest N P n (drop (output_length words) words))
    ∙ (ap (λ k. k + length (outputs_rules widest N P n (drop (output_length words) words))) (length-output_rules widest N P words)
    ∙ ap (λ k. output_length words + k) (length-outputs_rules widest N P n (drop (output_length words) words)))

-- ---- the head

pub record HeadSound (f : Format) (N P : ℕ) (words : List ℕ) : Type 0 where
  pub spelled : words ≡ head_words f N P (slice_index words 2) ++ inputs_part words
  pub count : (0 < slice_index words 2) × (slice_index words 2 ≤ 32768)

pub head_sound : (f : Format) (N P place : ℕ) (words : List ℕ) → first_broken (head_rules f N P) place words ≡ None → HeadSound f N P words
head_sound f N P place [] h = absurd cc
head_sound f N P place (a ∷ []) h = let e : 3 ≤ 1 = enough (head_rules f N P) place (a ∷ []) h in absurd (omega (arith, e))
head_sound f N P place (a ∷ b ∷ []) h = let e : 3 ≤ 2 = enough (head_rules f N P) place (a ∷ b ∷ []) h in absurd (omega (arith, e))
head_sound f N P place (a ∷ b ∷ c ∷ words) h =
    let h0 = none_both place (demand 2 (a == f.mark)) _ h in
    let h1 = none_both (place + 1) (demand 3 (b == N * 0x10000 + P)) _ h0.1 in
    let h2 = none_both (place + 1 + 1) (count_rule 32768 c) None h1.1 in
    let mark : a ≡ f.mark = eqb-true _ _ (met 2 (a == f.mark) h0.0) in
    let size : b ≡ N * 0x10000 + P = eqb-true _ _ (met 3 (b == N * 0x10000 + P) h1.0) in
    record {
      spelled = ap (λ x. x ∷ b ∷ c ∷ words) mark ∙ ap (λ x. f.mark ∷ x ∷ c ∷ words) size;
      count = count_sound 32768 c (met 4 (is_count 32768 c) h2.0);
    }

-- a first word that is a count
first_count : (most : ℕ) (rules : List Rule) (place : ℕ) (words : List ℕ) → first_broken (count_rule most ∷ rules) place words ≡ None → (words ≡ slice_index words 0 ∷ drop 1 words) × ((0 < slice_index words 0) × (slice_index words 0 ≤ most)) × (first_broken rules (place + 1) (drop 1 words) ≡ None)
first_count most rules place [] h = absurd cc
first_count most rules place (w ∷ words) h =
    let parts = none_both place (count_rule most w) (first_broken rules (place + 1) words) h in
    (refl, count_sound most w (met 4 (is_count most w) parts.0), parts.1)

pub length-input_rules : (f : Format) (N : ℕ) (words : List ℕ) → length (input_rules f N words) ≡ 1 + slice_index words 0
length-input_rules f N words =
    let e = length-width_rules f.widest N (slice_index words 0) 0 (drop 1 words) in
    omega (arith, e)

pub length-all_output_rules : (f : Format) (N P : ℕ) (words : List ℕ) → length (all_output_rules f N P words) ≡ 1 + outputs_length (slice_index words 0) (drop 1 words)
length-all_output_rules f N P words =
    let e = length-outputs_rules f.widest N P (slice_index words 0) (drop 1 words) in
    omega (arith, e)

-- a count and what it counts
counted : (k count n : ℕ) (body words : List ℕ) → words ≡ n ∷ drop 1 words → drop 1 words ≡ body ++ drop k (drop 1 words) → count ≡ n → words ≡ (count ∷ body) ++ drop (1 + k) words
counted k count n body words first rest e =
    first ∙ (ap (λ t. n ∷ t) (rest ∙ ap (λ t. body ++ t) (drop-drop k 1 words)) ∙ ap (λ c. c ∷ (body ++ drop (1 + k) words)) (sym e))

joined : (h a b c words w1 w2 w3 : List ℕ) → words ≡ h ++ w1 → w1 ≡ a ++ w2 → w2 ≡ b ++ w3 → w3 ≡ c → words ≡ h ++ a ++ b ++ c
joined h a b c words w1 w2 w3 e0 e1 e2 e3 =
    e0 ∙ (ap (λ t. h ++ t) (e1 ∙ ap (λ t. a ++ t) (e2 ∙ ap (λ t. b ++ t) e3))
    ∙ (sym (append_assoc h a (b ++ c)) ∙ sym (append_assoc (h ++ a) b c)))

small_part : (words : List ℕ) → AreWords words → AreWords (stages_part words)
small_part words small = words-drop _ (outputs_part words) (words-drop _ (inputs_part words) (words-drop 3 words small))

pub record ShapeSound (f : Format) (N P : ℕ) (words : List ℕ) : Type 0 where
  pub lawful : f.widest ≤ 128 → IsLawful N P (shape_in f.packed N words)
  pub within : are_widths_within f.widest (shape_in f.packed N words) ≡ true
  pub bytes : AreWords words → has_bytes (shape_in f.packed N words) ≡ true
  pub spelled : AreWords words → drop (stages_length f.packed N (slice_index words 2) (stages_part words)) (stages_part words) ≡ [] → words ≡ words_in f N P (shape_in f.packed N words)

pub shape_sound : (f : Format) (N P place : ℕ) (words : List ℕ) → 1 ≤ N → N ≤ 64 → 2 ≤ P → P ≤ 16 → first_broken (rules_in f N P words) place words ≡ None → ShapeSound f N P words
shape_sound f N P place words n1 n64 p2 p16 h =
    let ip = inputs_part words in
    let op = outputs_part words in
    let sp = stages_part words in
    let n = slice_index ip 0 in
    let m = slice_index op 0 in
    let v = slice_index words 2 in
    let inputs = inputs_of words in
    let outputs = outputs_of m (drop 1 op) in
    let stages = stages_of f.packed N v sp in
    let ol = outputs_length m (drop 1 op) in
    let stage_part = stages_rules f.packed N P (bytes_in inputs) 0 v sp in
    let long1 : length (input_rules f N ip) ≡ 1 + n = length-input_rules f N ip in
    let long2 : length (all_output_rules f N P op) ≡ 1 + ol = length-all_output_rules f N P op in
    let s0 = none_split_at (head_rules f N P) (input_rules f N ip ++ (all_output_rules f N P op ++ stage_part)) 3 place words refl h in
    let s1 = none_split_at (input_rules f N ip) (all_output_rules f N P op ++ stage_part) (1 + n) (place + 3) ip long1 s0.1 in
    let s2 = none_split_at (all_output_rules f N P op) stage_part (1 + ol) (place + 3 + (1 + n)) op long2 s1.1 in
    let head = head_sound f N P place words s0.0 in
    let first = first_count N (width_rules f.widest N n 0 (drop 1 ip)) (place + 3) ip s1.0 in
    let widths = widths_sound f.widest N n 0 (place + 3 + 1) (drop 1 ip) first.2 in
    let second = first_count 64 (outputs_rules f.widest N P m (drop 1 op)) (place + 3 + (1 + n)) op s2.0 in
    let outs = outputs_sound f.widest N P m (place + 3 + (1 + n) + 1) (drop 1 op) second.2 in
    let rest = stages_sound f.packed N P (bytes_in inputs) 0 v (place + 3 + (1 + n) + (1 + ol)) sp p2 p16 s2.1 in
    let some_in : nat_lt 0 (length inputs) ≡ true = lt-ltb _ _ (omega (arith, widths.count, first.1.0)) in
    let some_out : nat_lt 0 (length outputs) ≡ true = lt-ltb _ _ (omega (arith, outs.count, second.1.0)) in
    let few_out : nat_le (length outputs) 64 ≡ true = le-leb _ _ (omega (arith, outs.count, second.1.1)) in
    let fit : nat_le (bytes_in inputs) N ≡ true = le-leb _ _ (widths.bytes (omega arith)) in
    record {
      lawful = λ few. record {
        columns = n1;
        most_columns = n64;
        registers = p2;
        most_registers = p16;
        some = omega (arith, rest.many, head.count.0);
        few = omega (arith, rest.many, head.count.1);
        inputs = rw (some_in, widths.lawful few, fit) refl;
        outputs = rw (some_out, few_out, outs.lawful few) refl;
        stages = rest.lawful;
      };
      within = rw (widths.within, outs.within) refl;
      bytes = λ small. rw (outs.bytes, rest.bytes (small_part words small)) refl;
      spelled = λ small ends.
          let three = head.spelled in
          let two = counted n (length inputs) n inputs ip first.0 widths.spelled widths.count in
          let one = counted ol (length outputs) m (flat_map output_words outputs) op second.0 outs.spelled outs.count in
          let last = rest.spelled (small_part words small) ∙ (ap (λ t. flat_map (stage_words f.packed N) stages ++ t) ends ∙ append-nil (flat_map (stage_words f.packed N) stages)) in
          joined (head_words f N P v) (length inputs ∷ inputs) (length outputs ∷ flat_map output_words outputs) (flat_map (stage_words f.packed N) stages) words ip op sp three two one last
          ∙ ap (λ k. head_words f N P k ++ (length inputs ∷ inputs) ++ (length outputs ∷ flat_map output_words outputs) ++ flat_map (stage_words f.packed N) stages) (sym rest.many);
    }
