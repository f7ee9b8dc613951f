-- The words of a configuration break no rule, and read as that configuration.
use Rattle.std.proofs.Common.{◌≡◌, ℕ, suc, ◌+◌, ◌*◌, ◌/◌, ◌%◌, ◌^◌, ◌<◌, ◌≤◌, ◌==◌, ◌&&◌, true, List, [], ◌∷◌, ◌++◌, length, take, drop, map, replicate, slice_index, refl, sym, ap, ◌∙◌, arith, Option, None, nat_lt, nat_le, append_assoc, fold}
use Rattle.std.specs.List.{flat_map, list_all}
use Rattle.std.proofs.lemmas.Bool.{ltb-true, lt-ltb, eqb-true, eq-eqb, leb-true, le-leb}
use Rattle.std.proofs.lemmas.List.{length-append, length-map, drop_at, take_at, append-nil}
use Rattle.pr_base.specs.Numbers.{slices_of}
use Rattle.pr_conf.specs.declared.outputs.Tap.{Tap}
use Rattle.pr_conf.specs.Shape.{OutputShape, Shape}
use Rattle.pr_conf.specs.Rules.{is_lawful_tap, is_lawful_width, is_lawful_output, bytes_in, IsLawful}
use Rattle.pr_code.specs.declared.formats.Format.{Format}
use Rattle.pr_code.specs.Spelling.{tap_word, output_words, stage_words, words_in, head_words, has_tap_byte, have_tap_bytes, has_pe_bytes, has_bytes, are_widths_within}
use Rattle.pr_code.specs.Reading.{tap_of, output_of, output_length, outputs_of, outputs_length, inputs_of, outputs_part, stages_part, shape_in, stages_of, stages_length}
use Rattle.pr_code.specs.Rules.{Rule, Broken, demand, broken_at, first_broken, is_count, count_rule, tap_rule, head_rules, width_rules, input_rules, output_rules, outputs_rules, all_output_rules, stages_rules, rules_in}
use Rattle.pr_code.proofs.WritingLemmas.{both, inputs_few}
use Rattle.pr_code.proofs.ReadLemmas.{length-output_rules}
use Rattle.pr_code.proofs.SoundShapes.{length-input_rules, length-all_output_rules}
use Rattle.pr_code.proofs.DecodeLemmas.{same_shape, length-rules_in, stages_long}
use Rattle.pr_code.proofs.AgainLemmas.{and_true}
use Rattle.pr_code.proofs.AgainStages.{Keeps, seq_keeps, stages_again, is_small, small_append, small_stages}

pub cons_none : (place w : ℕ) (r : Rule) (later : Option Broken) → r w ≡ None → later ≡ None → broken_at place (r w) later ≡ None
cons_none place w r later h k = rw (h, k) refl

count_kept : (most n : ℕ) → 0 < n → n ≤ most → count_rule most n ≡ None
count_kept most n some few = ap (demand 4) (and_true (nat_lt 0 n) (nat_le n most) (lt-ltb _ _ some) (le-leb _ _ few))

-- ---- taps and outputs

tap_again : (N P : ℕ) (t : Tap) → N ≤ 64 → P ≤ 16 → is_lawful_tap N P t ≡ true → has_tap_byte t ≡ true → tap_of (tap_word t) ≡ t
tap_again N P (Tap.Const k) n64 p16 h byte =
    let lt : k < 256 = ltb-true _ _ byte in
    let q : k / 0x1000 ≡ 0 = omega arith in
    let m : k % 256 ≡ k = omega arith in
    rw (q, m) refl
tap_again N P (Tap.Reg col reg) n64 p16 h byte =
    let p = both (nat_lt col N && nat_lt 0 reg) (nat_lt reg P) h in
    let c : col < N = ltb-true _ _ (both (nat_lt col N) (nat_lt 0 reg) p.0).0 in
    let r : reg < P = ltb-true _ _ p.1 in
    let q : (0x1000 + col * 16 + reg) / 0x1000 ≡ 1 = omega (arith, c, r, n64, p16) in
    let d : (0x1000 + col * 16 + reg) / 16 % 256 ≡ col = omega (arith, c, r, n64, p16) in
    let m : (0x1000 + col * 16 + reg) % 16 ≡ reg = omega (arith, c, r, n64, p16) in
    rw (q, d, m) refl

tap_kept : (N P : ℕ) (t : Tap) → tap_of (tap_word t) ≡ t → is_lawful_tap N P t ≡ true → tap_rule N P (tap_word t) ≡ None
tap_kept N P t e h = ap (demand 5) (and_true (tap_word (tap_of (tap_word t)) == tap_word t) (is_lawful_tap N P (tap_of (tap_word t))) (eq-eqb _ _ (ap tap_word e)) (ap (is_lawful_tap N P) e ∙ h))

record TapsAgain (N P : ℕ) (taps : List Tap) (rest : List ℕ) : Type 0 where
  pub none : (place : ℕ) → first_broken (replicate (length taps) (tap_rule N P)) place (map tap_word taps ++ rest) ≡ None
  pub again : map tap_of (take (length taps) (map tap_word taps ++ rest)) ≡ taps

taps_again : (N P : ℕ) (taps : List Tap) (rest : List ℕ) → N ≤ 64 → P ≤ 16 → list_all (is_lawful_tap N P) taps ≡ true → list_all has_tap_byte taps ≡ true → TapsAgain N P taps rest
taps_again N P [] rest n64 p16 h byte = record { none = λ place. refl; again = refl }
taps_again N P (t ∷ taps) rest n64 p16 h byte =
    let law = both (is_lawful_tap N P t) (list_all (is_lawful_tap N P) taps) h in
    let fit = both (has_tap_byte t) (list_all has_tap_byte taps) byte in
    let e = tap_again N P t n64 p16 law.0 fit.0 in
    let more = taps_again N P taps rest n64 p16 law.1 fit.1 in
    record {
      none = λ place. cons_none place (tap_word t) (tap_rule N P) _ (tap_kept N P t e law.0) (more.none (place + 1));
      again = ap (λ x. x ∷ map tap_of (take (length taps) (map tap_word taps ++ rest))) e ∙ ap (λ ts. t ∷ ts) more.again;
    }

abbrev output : ℕ → List Tap → OutputShape
output w taps = record { width = w; taps = taps }

record OutputAgain (widest N P : ℕ) (o : OutputShape) (rest : List ℕ) : Type 0 where
  pub none : Keeps (output_rules widest N P) (output_words o ++ rest)
  pub again : output_of (output_words o ++ rest) ≡ o
  pub long : length (output_words o) ≡ output_length (output_words o ++ rest)

output_again : (widest N P : ℕ) (o : OutputShape) (rest : List ℕ) → N ≤ 64 → P ≤ 16 → is_lawful_output N P o ≡ true → nat_le o.width widest ≡ true → have_tap_bytes o ≡ true → OutputAgain widest N P o rest
output_again widest N P o rest n64 p16 h within byte =
    let l1 = both (is_lawful_width o.width && (length o.taps == slices_of o.width)) (list_all (is_lawful_tap N P) o.taps) h in
    let l0 = both (is_lawful_width o.width) (length o.taps == slices_of o.width) l1.0 in
    let some : 0 < o.width = ltb-true _ _ (both (nat_lt 0 o.width) (nat_le o.width 128) l0.0).0 in
    let n : length o.taps ≡ slices_of o.width = eqb-true _ _ l0.1 in
    let taps = taps_again N P o.taps rest n64 p16 l1.1 byte in
    let count = length-map o.taps tap_word in
    record {
      none = λ place. cons_none place o.width (count_rule widest) _ (count_kept widest o.width some (leb-true _ _ within)) (ap (λ k. first_broken (replicate k (tap_rule N P)) (place + 1) (map tap_word o.taps ++ rest)) (sym n) ∙ taps.none (place + 1));
      again = ap (λ (ts : List Tap). output o.width ts) (ap (λ k. map tap_of (take k (map tap_word o.taps ++ rest))) (sym n) ∙ taps.again);
      long = omega (arith, count, n);
    }

record OutputsAgain (widest N P : ℕ) (outputs : List OutputShape) (rest : List ℕ) : Type 0 where
  pub none : Keeps (outputs_rules widest N P (length outputs)) (flat_map output_words outputs ++ rest)
  pub again : outputs_of (length outputs) (flat_map output_words outputs ++ rest) ≡ outputs
  pub long : length (flat_map output_words outputs) ≡ outputs_length (length outputs) (flat_map output_words outputs ++ rest)

outputs_again : (widest N P : ℕ) (outputs : List OutputShape) (rest : List ℕ) → N ≤ 64 → P ≤ 16 → list_all (is_lawful_output N P) outputs ≡ true → list_all (λ (o : OutputShape). nat_le o.width widest) outputs ≡ true → list_all have_tap_bytes outputs ≡ true → OutputsAgain widest N P outputs rest
outputs_again widest N P [] rest n64 p16 h within byte = record { none = λ place. refl; again = refl; long = refl }
outputs_again widest N P (o ∷ outputs) rest n64 p16 h within byte =
    let law = both (is_lawful_output N P o) (list_all (is_lawful_output N P) outputs) h in
    let fit = both (have_tap_bytes o) (list_all have_tap_bytes outputs) byte in
    let few = both (nat_le o.width widest) (list_all (λ (o : OutputShape). nat_le o.width widest) outputs) within in
    let F = flat_map output_words outputs in
    let later = F ++ rest in
    let W = output_words o ++ later in
    let one = output_again widest N P o later n64 p16 law.0 few.0 fit.0 in
    let more = outputs_again widest N P outputs rest n64 p16 law.1 few.1 fit.1 in
    let words : flat_map output_words (o ∷ outputs) ++ rest ≡ W = append_assoc (output_words o) F rest in
    let after : drop (output_length W) W ≡ later = drop_at (output_words o) later (output_length W) one.long in
    let keeps = seq_keeps (output_rules widest N P W) (outputs_rules widest N P (length outputs)) (output_length W) W later (length-output_rules widest N P W) after one.none more.none in
    record {
      none = λ place. ap (λ t. first_broken (outputs_rules widest N P (suc (length outputs)) t) place t) words ∙ keeps place;
      again = ap (outputs_of (suc (length outputs))) words ∙ (ap (λ x. x ∷ outputs_of (length outputs) (drop (output_length W) W)) one.again ∙ ap (λ t. o ∷ t) (ap (outputs_of (length outputs)) after ∙ more.again));
      long =
          length-append (output_words o) F ∙ (ap (λ k. k + length F) one.long ∙ (ap (λ k. output_length W + k) (more.long ∙ ap (outputs_length (length outputs)) (sym after))
          ∙ ap (outputs_length (suc (length outputs))) (sym words)));
    }

-- ---- inputs

fold_up : (ws : List ℕ) (used : ℕ) → used ≤ fold (λ a x. a + slices_of x) used ws
fold_up [] used = omega arith
fold_up (w ∷ ws) used = let h = fold_up ws (used + slices_of w) in omega (arith, h)

pub widths_keep : (widest N used : ℕ) (ws rest : List ℕ) → list_all is_lawful_width ws ≡ true → list_all (λ w. nat_le w widest) ws ≡ true → fold (λ a x. a + slices_of x) used ws ≤ N → (place : ℕ) → first_broken (width_rules widest N (length ws) used (ws ++ rest)) place (ws ++ rest) ≡ None
widths_keep widest N used [] rest h within fit place = refl
widths_keep widest N used (w ∷ ws) rest h within fit place =
    let law = both (is_lawful_width w) (list_all is_lawful_width ws) h in
    let few = both (nat_le w widest) (list_all (λ w. nat_le w widest) ws) within in
    let some : nat_lt 0 w ≡ true = (both (nat_lt 0 w) (nat_le w 128) law.0).0 in
    let up = fold_up ws (used + slices_of w) in
    let room : nat_le (used + slices_of w) N ≡ true = le-leb _ _ (omega (arith, up, fit)) in
    let test = and_true (is_count widest w) (nat_le (used + slices_of w) N) (and_true (nat_lt 0 w) (nat_le w widest) some few.0) room in
    cons_none place w (λ v. demand 4 (is_count widest v && nat_le (used + slices_of v) N)) _ (ap (demand 4) test) (widths_keep widest N (used + slices_of w) ws rest law.1 few.1 fit (place + 1))

-- ---- a configuration

fixed : List Rule → List ℕ → List Rule
fixed rules words = rules

pub record ShapeAgain (f : Format) (N P : ℕ) (c : Shape) : Type 0 where
  pub none : (place : ℕ) → first_broken (rules_in f N P (words_in f N P c)) place (words_in f N P c) ≡ None
  pub again : shape_in f.packed N (words_in f N P c) ≡ c
  pub long : length (rules_in f N P (words_in f N P c)) ≡ length (words_in f N P c)
  pub small : f.mark < 2 ^ 32 → list_all is_small (words_in f N P c) ≡ true

head_keeps : (f : Format) (N P v : ℕ) (rest : List ℕ) → 0 < v → v ≤ 32768 → (place : ℕ) → first_broken (head_rules f N P) place (head_words f N P v ++ rest) ≡ None
head_keeps f N P v rest some few place =
    cons_none place f.mark (λ w. demand 2 (w == f.mark)) _ (ap (demand 2) (eq-eqb f.mark f.mark refl))
    (cons_none (place + 1) (N * 0x10000 + P) (λ w. demand 3 (w == N * 0x10000 + P)) _ (ap (demand 3) (eq-eqb (N * 0x10000 + P) (N * 0x10000 + P) refl))
    (cons_none (place + 1 + 1) v (count_rule 32768) None (count_kept 32768 v some few) refl))

-- what stands behind the head
abbrev body : Format → ℕ → Shape → List ℕ
body f N c = (length c.inputs ∷ c.inputs) ++ ((length c.outputs ∷ flat_map output_words c.outputs) ++ flat_map (stage_words f.packed N) c.stages)

words_are_body : (f : Format) (N P : ℕ) (c : Shape) → words_in f N P c ≡ head_words f N P (length c.stages) ++ body f N c
words_are_body f N P c =
    let h = head_words f N P (length c.stages) in
    let i = length c.inputs ∷ c.inputs in
    let o = length c.outputs ∷ flat_map output_words c.outputs in
    let s = flat_map (stage_words f.packed N) c.stages in
    append_assoc (h ++ i) o s ∙ append_assoc h i (o ++ s)

small_widths : (ws : List ℕ) → list_all is_lawful_width ws ≡ true → list_all is_small ws ≡ true
small_widths [] h = refl
small_widths (w ∷ ws) h =
    let p = both (is_lawful_width w) (list_all is_lawful_width ws) h in
    and_true (is_small w) (list_all is_small ws) (lt-ltb _ _ (omega (arith, leb-true _ _ (both (nat_lt 0 w) (nat_le w 128) p.0).1))) (small_widths ws p.1)

small_tap : (N P : ℕ) (t : Tap) → N ≤ 64 → P ≤ 16 → is_lawful_tap N P t ≡ true → has_tap_byte t ≡ true → is_small (tap_word t) ≡ true
small_tap N P (Tap.Const k) n64 p16 h byte = lt-ltb _ _ (omega (arith, ltb-true _ _ byte))
small_tap N P (Tap.Reg col reg) n64 p16 h byte =
    let p = both (nat_lt col N && nat_lt 0 reg) (nat_lt reg P) h in
    let c : col < N = ltb-true _ _ (both (nat_lt col N) (nat_lt 0 reg) p.0).0 in
    let r : reg < P = ltb-true _ _ p.1 in
    lt-ltb _ _ (omega (arith, c, r, n64, p16))

small_taps : (N P : ℕ) (ts : List Tap) → N ≤ 64 → P ≤ 16 → list_all (is_lawful_tap N P) ts ≡ true → list_all has_tap_byte ts ≡ true → list_all is_small (map tap_word ts) ≡ true
small_taps N P [] n64 p16 h byte = refl
small_taps N P (t ∷ ts) n64 p16 h byte =
    let law = both (is_lawful_tap N P t) (list_all (is_lawful_tap N P) ts) h in
    let fit = both (has_tap_byte t) (list_all has_tap_byte ts) byte in
    and_true (is_small (tap_word t)) (list_all is_small (map tap_word ts)) (small_tap N P t n64 p16 law.0 fit.0) (small_taps N P ts n64 p16 law.1 fit.1)

small_outputs : (N P : ℕ) (outputs : List OutputShape) → N ≤ 64 → P ≤ 16 → list_all (is_lawful_output N P) outputs ≡ true → list_all have_tap_bytes outputs ≡ true → list_all is_small (flat_map output_words outputs) ≡ true
small_outputs N P [] n64 p16 h byte = refl
small_outputs N P (o ∷ outputs) n64 p16 h byte =
    let law = both (is_lawful_output N P o) (list_all (is_lawful_output N P) outputs) h in
    let fit = both (have_tap_bytes o) (list_all have_tap_bytes outputs) byte in
    let l1 = both (is_lawful_width o.width && (length o.taps == slices_of o.width)) (list_all (is_lawful_tap N P) o.taps) law.0 in
    let w = both (is_lawful_width o.width) (length o.taps == slices_of o.width) l1.0 in
    let width : o.width ≤ 128 = leb-true _ _ (both (nat_lt 0 o.width) (nat_le o.width 128) w.0).1 in
    small_append (output_words o) (flat_map output_words outputs)
    (and_true (is_small o.width) (list_all is_small (map tap_word o.taps)) (lt-ltb _ _ (omega (arith, width))) (small_taps N P o.taps n64 p16 l1.1 fit.0))
    (small_outputs N P outputs n64 p16 law.1 fit.1)

small_words : (f : Format) (N P : ℕ) (c : Shape) → IsLawful N P c → f.mark < 2 ^ 32 → list_all have_tap_bytes c.outputs ≡ true → list_all (list_all has_pe_bytes) c.stages ≡ true → length c.inputs ≤ N → bytes_in c.inputs ≤ N → list_all (λ w. nat_le w f.widest) c.inputs ≡ true → list_all (λ (o : OutputShape). nat_le o.width f.widest) c.outputs ≡ true → list_all is_small (head_words f N P (length c.stages) ++ body f N c) ≡ true
small_words f N P c l mark taps bytes few bus wi wo =
    let li = both (nat_lt 0 (length c.inputs) && list_all is_lawful_width c.inputs) (nat_le (bytes_in c.inputs) N) l.inputs in
    let li0 = both (nat_lt 0 (length c.inputs)) (list_all is_lawful_width c.inputs) li.0 in
    let lo = both (nat_lt 0 (length c.outputs) && nat_le (length c.outputs) 64) (list_all (is_lawful_output N P) c.outputs) l.outputs in
    let m64 : length c.outputs ≤ 64 = leb-true _ _ (both (nat_lt 0 (length c.outputs)) (nat_le (length c.outputs) 64) lo.0).1 in
    let size = lt-ltb (N * 0x10000 + P) (2 ^ 32) (omega (arith, l.most_columns, l.most_registers)) in
    let v = lt-ltb (length c.stages) (2 ^ 32) (omega (arith, l.few)) in
    let n = lt-ltb (length c.inputs) (2 ^ 32) (omega (arith, few, l.most_columns)) in
    let m = lt-ltb (length c.outputs) (2 ^ 32) (omega (arith, m64)) in
    let ins = and_true _ _ n (small_widths c.inputs li0.1) in
    let outs = and_true _ _ m (small_outputs N P c.outputs l.most_columns l.most_registers lo.1 taps) in
    let stages = small_stages f.packed N P (bytes_in c.inputs) 0 c.stages l.most_columns l.most_registers (omega (arith, bus, l.most_columns)) l.stages bytes in
    let tail = small_append (length c.inputs ∷ c.inputs) ((length c.outputs ∷ flat_map output_words c.outputs) ++ flat_map (stage_words f.packed N) c.stages) ins (small_append (length c.outputs ∷ flat_map output_words c.outputs) (flat_map (stage_words f.packed N) c.stages) outs stages) in
    and_true _ _ (lt-ltb f.mark (2 ^ 32) mark) (and_true _ _ size (and_true _ _ v tail))

pub shape_again : (f : Format) (N P : ℕ) (c : Shape) → IsLawful N P c → has_bytes c ≡ true → are_widths_within f.widest c ≡ true → ShapeAgain f N P c
unfolding fixed
shape_again f N P c l byte within =
    let wi = both (list_all (λ w. nat_le w f.widest) c.inputs) (list_all (λ (o : OutputShape). nat_le o.width f.widest) c.outputs) within in
    let fits = both (list_all have_tap_bytes c.outputs) (list_all (list_all has_pe_bytes) c.stages) byte in
    let li = both (nat_lt 0 (length c.inputs) && list_all is_lawful_width c.inputs) (nat_le (bytes_in c.inputs) N) l.inputs in
    let li0 = both (nat_lt 0 (length c.inputs)) (list_all is_lawful_width c.inputs) li.0 in
    let lo = both (nat_lt 0 (length c.outputs) && nat_le (length c.outputs) 64) (list_all (is_lawful_output N P) c.outputs) l.outputs in
    let lo0 = both (nat_lt 0 (length c.outputs)) (nat_le (length c.outputs) 64) lo.0 in
    let bus : bytes_in c.inputs ≤ N = leb-true _ _ li.1 in
    let n = length c.inputs in
    let m = length c.outputs in
    let S = flat_map (stage_words f.packed N) c.stages in
    let O = (m ∷ flat_map output_words c.outputs) ++ S in
    let ip = body f N c in
    let W = head_words f N P (length c.stages) ++ ip in
    let words = words_are_body f N P c in
    let few_in = inputs_few N c.inputs l.inputs in
    let outs = outputs_again f.widest N P c.outputs S l.most_columns l.most_registers lo.1 wi.1 fits.0 in
    let stages0 = stages_again f.packed N P (bytes_in c.inputs) 0 c.stages [] l.most_columns l.most_registers (omega (arith, bus, l.most_columns)) l.stages fits.1 in
    let ends : S ++ [] ≡ S = append-nil S in
    let ins : inputs_of W ≡ c.inputs = take_at c.inputs O n refl in
    let op : outputs_part W ≡ O = let one : 1 + n ≡ suc n = omega arith in rw one (drop_at c.inputs O n refl) in
    let om : slice_index (outputs_part W) 0 ≡ m = ap (λ t. slice_index t 0) op in
    let od : drop 1 (outputs_part W) ≡ flat_map output_words c.outputs ++ S = ap (drop 1) op in
    let ol : outputs_length (slice_index (outputs_part W) 0) (drop 1 (outputs_part W)) ≡ length (flat_map output_words c.outputs) = ap (λ t. outputs_length (slice_index t 0) (drop 1 t)) op ∙ sym outs.long in
    let sp : stages_part W ≡ S =
    ap (λ k. drop (1 + k) (outputs_part W)) ol ∙ (ap (drop (1 + length (flat_map output_words c.outputs))) op
    ∙ drop_at (m ∷ flat_map output_words c.outputs) S (1 + length (flat_map output_words c.outputs)) (omega arith)) in
    let stage_rules_W = stages_rules f.packed N P (bytes_in (inputs_of W)) 0 (length c.stages) (stages_part W) in
    let s_keep : (place : ℕ) → first_broken stage_rules_W place (stages_part W) ≡ None = λ place.
    ap (λ b. first_broken (stages_rules f.packed N P (bytes_in b) 0 (length c.stages) (stages_part W)) place (stages_part W)) ins
    ∙ (ap (λ t. first_broken (stages_rules f.packed N P (bytes_in c.inputs) 0 (length c.stages) t) place t) (sp ∙ sym ends) ∙ stages0.none place) in
    let o_rule : (place : ℕ) → first_broken (all_output_rules f N P (outputs_part W)) place (outputs_part W) ≡ None = λ place.
    ap (λ t. first_broken (all_output_rules f N P t) place t) op
    ∙ cons_none place m (count_rule 64) _ (count_kept 64 m (ltb-true _ _ lo0.0) (leb-true _ _ lo0.1)) (outs.none (place + 1)) in
    let i_rule : (place : ℕ) → first_broken (input_rules f N ip) place ip ≡ None = λ place.
    cons_none place n (count_rule N) _ (count_kept N n (ltb-true _ _ li0.0) few_in) (widths_keep f.widest N 0 c.inputs O li0.1 wi.0 bus (place + 1)) in
    let o_seq = seq_keeps (all_output_rules f N P (outputs_part W)) (fixed stage_rules_W) (1 + outputs_length (slice_index (outputs_part W) 0) (drop 1 (outputs_part W))) (outputs_part W) (stages_part W) (length-all_output_rules f N P (outputs_part W)) refl o_rule s_keep in
    let i_seq = seq_keeps (input_rules f N ip) (fixed (all_output_rules f N P (outputs_part W) ++ stage_rules_W)) (1 + n) ip (outputs_part W) (length-input_rules f N ip) refl i_rule o_seq in
    let all = seq_keeps (head_rules f N P) (fixed (input_rules f N ip ++ (all_output_rules f N P (outputs_part W) ++ stage_rules_W))) 3 W ip refl refl (head_keeps f N P (length c.stages) ip l.some l.few) i_seq in
    record {
      none = λ place. ap (λ t. first_broken (rules_in f N P t) place t) words ∙ all place;
      again =
          ap (shape_in f.packed N) words
          ∙ same_shape (inputs_of W) (outputs_of (slice_index (outputs_part W) 0) (drop 1 (outputs_part W))) (stages_of f.packed N (length c.stages) (stages_part W)) c
          ins (ap (λ t. outputs_of (slice_index t 0) (drop 1 t)) op ∙ outs.again) (ap (stages_of f.packed N (length c.stages)) (sp ∙ sym ends) ∙ stages0.again);
      long =
          let rules = length-rules_in f N P W in
          let sl : stages_long f N W ≡ length S = ap (stages_length f.packed N (length c.stages)) (sp ∙ sym ends) ∙ sym stages0.long in
          let lw = length-append (m ∷ flat_map output_words c.outputs) S in
          let li = length-append (n ∷ c.inputs) O in
          let total : length (rules_in f N P W) ≡ length W = omega (arith, rules, sl, ol, lw, li) in
          ap (λ t. length (rules_in f N P t)) words ∙ (total ∙ ap length (sym words));
      small = λ mark. ap (list_all is_small) words ∙ small_words f N P c l mark fits.0 fits.1 few_in bus wi.0 wi.1;
    }
