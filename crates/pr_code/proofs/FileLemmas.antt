-- Files, of bytes.
use Rattle.std.proofs.Common.{◌≡◌, ℕ, zero, suc, ◌+◌, ◌*◌, ◌^◌, ◌<◌, ◌≤◌, ◌==◌, Bool, true, false, List, [], ◌∷◌, ◌++◌, length, get_or, slice_index, refl, sym, ap, ◌∙◌, arith, None, Some, Result, Ok, Err, IfOk, Option, cond, inl, inr, subst, length-drop}
use Rattle.std.specs.Int.{w32, to_be_bytes}
use Rattle.std.proofs.lemmas.Bool.{eqb-true}
use Rattle.std.proofs.lemmas.Nat.{be_bytes_4}
use Rattle.std.proofs.lemmas.List.{drop_all}
use Rattle.pr_conf.specs.Shape.{Shape}
use Rattle.pr_conf.specs.Rules.{IsLawful}
use Rattle.pr_code.specs.declared.formats.Format.{Format}
use Rattle.pr_code.specs.declared.faults.CodeFault.{CodeFault}
use Rattle.pr_code.specs.Spelling.{bytes_of_words, format_1, format_2, IsFileIn, IsFile, has_bytes}
use Rattle.pr_code.specs.Reading.{words_of_bytes, shape_in, inputs_part, outputs_part, stages_part}
use Rattle.pr_code.specs.Rules.{Broken, broken_end, rules_in, bad_from, format_of, bad_word, shape_read}
use Rattle.pr_code.specs.Outcome.{Reads}
use Rattle.pr_code.proofs.SoundLemmas.{none_or}
use Rattle.pr_code.proofs.SoundStages.{AreWords}
use Rattle.pr_code.proofs.SoundShapes.{shape_sound}
use Rattle.pr_code.proofs.DecodeLemmas.{whole_file, length-rules_in, inputs_long, outputs_long, stages_long}

abbrev pub AreBytes : List ℕ → Type 0
AreBytes bytes = (i : ℕ) → get_or bytes i 0 < 256

pub record BytesBack (k : ℕ) (bytes : List ℕ) : Type 0 where
  pub same : bytes_of_words (words_of_bytes bytes) ≡ bytes
  pub count : length (words_of_bytes bytes) ≡ k
  pub small : AreWords (words_of_bytes bytes)

word_bytes : (a b c d : ℕ) (bytes : List ℕ) → AreBytes (a ∷ b ∷ c ∷ d ∷ bytes) → to_be_bytes w32 (a * 0x1000000 + b * 0x10000 + c * 0x100 + d) ≡ a ∷ b ∷ c ∷ d ∷ []
word_bytes a b c d bytes fits =
    be_bytes_4 (a ∷ b ∷ c ∷ d ∷ []) (a * 0x1000000 + b * 0x10000 + c * 0x100 + d) refl fits' (omega arith)
  where
    fits' : (i : ℕ) → get_or (a ∷ b ∷ c ∷ d ∷ []) i 0 < 256
    fits' zero = fits 0
    fits' (suc zero) = fits 1
    fits' (suc (suc zero)) = fits 2
    fits' (suc (suc (suc zero))) = fits 3
    fits' (suc (suc (suc (suc i)))) = omega arith

pub cons_bytes : (w : ℕ) (words : List ℕ) → bytes_of_words (w ∷ words) ≡ to_be_bytes w32 w ++ bytes_of_words words
unfolding bytes_of_words
cons_bytes w words = refl

pub nil_bytes : bytes_of_words [] ≡ []
unfolding bytes_of_words
nil_bytes = refl

pub bytes_back : (bytes : List ℕ) (k : ℕ) → length bytes ≡ 4 * k → AreBytes bytes → BytesBack k bytes
bytes_back [] k h fits = record { same = nil_bytes; count = omega (arith, h); small = λ i. omega arith }
bytes_back (a ∷ []) k h fits = absurd (omega (arith, h))
bytes_back (a ∷ b ∷ []) k h fits = absurd (omega (arith, h))
bytes_back (a ∷ b ∷ c ∷ []) k h fits = absurd (omega (arith, h))
bytes_back (a ∷ b ∷ c ∷ d ∷ bytes) zero h fits = absurd (omega (arith, h))
bytes_back (a ∷ b ∷ c ∷ d ∷ bytes) (suc k) h fits =
    let w = a * 0x1000000 + b * 0x10000 + c * 0x100 + d in
    let rest = bytes_back bytes k (omega (arith, h)) (λ i. fits (suc (suc (suc (suc i))))) in
    record {
      same = cons_bytes w (words_of_bytes bytes) ∙ (ap (λ t. t ++ bytes_of_words (words_of_bytes bytes)) (word_bytes a b c d bytes fits) ∙ ap (λ t. a ∷ b ∷ c ∷ d ∷ t) rest.same);
      count = ap suc rest.count;
      small = small_by w (words_of_bytes bytes) (omega (arith, fits 0, fits 1, fits 2, fits 3)) rest.small;
    }
  where
    small_by : (w : ℕ) (words : List ℕ) → w < 2 ^ 32 → AreWords words → AreWords (w ∷ words)
    small_by w words here rest zero = here
    small_by w words here rest (suc i) = rest i

pub end_met : (b : Bool) (x : Broken) → cond b None (Some x) ≡ None → b ≡ true
end_met true x h = refl
end_met false x h = absurd cc

-- a file of which no word breaks a rule
pub record FileSound (f : Format) (N P : ℕ) (bytes : List ℕ) : Type 0 where
  pub lawful : IsLawful N P (shape_in f.packed N (words_of_bytes bytes))
  pub has : has_bytes (shape_in f.packed N (words_of_bytes bytes)) ≡ true
  pub file : IsFileIn f N P (shape_in f.packed N (words_of_bytes bytes)) bytes

pub file_sound : (f : Format) (N P : ℕ) (bytes : List ℕ) → 1 ≤ N → N ≤ 64 → 2 ≤ P → P ≤ 16 → f.widest ≤ 128 → AreBytes bytes → bad_from f N P 0 bytes ≡ None → FileSound f N P bytes
file_sound f N P bytes n1 n64 p2 p16 widest fits h =
    let words = words_of_bytes bytes in
    let parts = none_or (whole_file f N P 0 words) (broken_end (0 + length (rules_in f N P words)) bytes) h in
    let k = length (rules_in f N P words) in
    let long : length bytes ≡ 4 * (0 + k) = eqb-true _ _ (end_met (length bytes == 4 * (0 + k)) _ parts.1) in
    let back = bytes_back bytes k (omega (arith, long)) fits in
    let sound = shape_sound f N P 0 words n1 n64 p2 p16 parts.0 in
    let rules = length-rules_in f N P words in
    let l0 = length-drop 3 words in
    let l1 = length-drop (inputs_long words) (inputs_part words) in
    let l2 = length-drop (outputs_long words) (outputs_part words) in
    let last : length (stages_part words) ≤ stages_long f N words = omega (arith, back.count, rules, l0, l1, l2) in
    let ends = drop_all (stages_long f N words) (stages_part words) last in
    record {
      lawful = sound.lawful widest;
      has = sound.bytes back.small;
      file = record { widths = sound.within; spelled = sym back.same ∙ ap bytes_of_words (sound.spelled back.small ends) };
    }

pub file_of : (b : Bool) (N P : ℕ) (c : Shape) (bytes : List ℕ) → IsFileIn (cond b format_1 format_2) N P c bytes → IsFile N P c bytes
file_of true N P c bytes h = inl h
file_of false N P c bytes h = inr h

pub widest_of : (b : Bool) → (cond b format_1 format_2).widest ≤ 128
widest_of true = omega arith
widest_of false = omega arith

pub decode_reads : {X : Type 0} (r : Result X CodeFault) (shape : X → Shape) (f : Format) (N P : ℕ) (bytes : List ℕ) → 1 ≤ N → N ≤ 64 → 2 ≤ P → P ≤ 16 → AreBytes bytes → f ≡ format_of bytes → Reads r (bad_from f N P 0 bytes) (λ c. shape c ≡ shape_in f.packed N (words_of_bytes bytes)) → Reads r (bad_word N P bytes) (λ c. IsFile N P (shape c) bytes)
unfolding bad_word
decode_reads (Ok c) shape f N P bytes n1 n64 p2 p16 fits e h =
    let none : bad_from (format_of bytes) N P 0 bytes ≡ None = ap (λ t. bad_from t N P 0 bytes) (sym e) ∙ h.0 in
    let is : shape c ≡ shape_in (format_of bytes).packed N (words_of_bytes bytes) = h.1 ∙ ap (λ (t : Format). shape_in t.packed N (words_of_bytes bytes)) e in
    let sound = file_sound (format_of bytes) N P bytes n1 n64 p2 p16 (widest_of (slice_index (words_of_bytes bytes) 0 == format_1.mark)) fits none in
    (none, file_of (slice_index (words_of_bytes bytes) 0 == format_1.mark) N P (shape c) bytes (subst (λ s. IsFileIn (format_of bytes) N P s bytes) (sym is) sound.file))
decode_reads (Err (CodeFault.BadConfig rule place)) shape f N P bytes n1 n64 p2 p16 fits e h = ap (λ t. bad_from t N P 0 bytes) (sym e) ∙ h
decode_reads (Err (CodeFault.Memory m)) shape f N P bytes n1 n64 p2 p16 fits e h = tt

pub decode_shape : {X : Type 0} (r : Result X CodeFault) (shape : X → Shape) (f : Format) (N : ℕ) (bytes : List ℕ) (broken : Option Broken) → f ≡ format_of bytes → Reads r broken (λ c. shape c ≡ shape_in f.packed N (words_of_bytes bytes)) → IfOk r (λ c. shape c ≡ shape_read N bytes)
unfolding shape_read
decode_shape (Ok c) shape f N bytes broken e h = h.1 ∙ ap (λ (t : Format). shape_in t.packed N (words_of_bytes bytes)) e
decode_shape (Err e) shape f N bytes broken is h = tt
