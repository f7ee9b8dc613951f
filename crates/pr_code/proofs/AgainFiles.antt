-- The file of a configuration breaks no rule, and reads as that configuration.
use Rattle.std.proofs.Common.{◌≡◌, ℕ, ◌+◌, ◌*◌, ◌/◌, ◌%◌, ◌^◌, ◌<◌, ◌==◌, true, List, [], ◌∷◌, length, slice_index, refl, ap, ◌∙◌, arith, None, Some, cond, inl, inr, eq-eqb}
use Rattle.std.specs.List.{list_all}
use Rattle.std.proofs.lemmas.Bool.{ltb-true}
use Rattle.pr_conf.specs.Shape.{Shape}
use Rattle.pr_conf.specs.Rules.{IsLawful}
use Rattle.pr_code.specs.declared.formats.Format.{Format}
use Rattle.pr_code.specs.Spelling.{bytes_of_words, format_1, format_2, words_in, IsFileIn, IsFile, has_bytes}
use Rattle.pr_code.specs.Reading.{words_of_bytes, shape_in}
use Rattle.pr_code.specs.Rules.{first_broken, or_else, broken_end, rules_in, bad_from, format_of, bad_word}
use Rattle.pr_code.proofs.WritingLemmas.{both}
use Rattle.pr_code.proofs.FileLemmas.{cons_bytes, nil_bytes}
use Rattle.pr_code.proofs.AgainStages.{is_small}
use Rattle.pr_code.proofs.AgainShapes.{shape_again}

-- small words come back from their bytes
pub record WordsBack (words : List ℕ) : Type 0 where
  pub same : words_of_bytes (bytes_of_words words) ≡ words
  pub long : length (bytes_of_words words) ≡ 4 * length words

pub words_back : (words : List ℕ) → list_all is_small words ≡ true → WordsBack words
words_back [] h = record { same = ap words_of_bytes nil_bytes; long = ap length nil_bytes }
words_back (w ∷ words) h =
    let p = both (is_small w) (list_all is_small words) h in
    let lt : w < 2 ^ 32 = ltb-true _ _ p.0 in
    let rest = words_back words p.1 in
    let bytes = cons_bytes w words in
    let value : w / 0x1000000 % 256 * 0x1000000 + w / 0x10000 % 256 * 0x10000 + w / 0x100 % 256 * 0x100 + w % 256 ≡ w = omega (arith, lt) in
    record {
      same = ap words_of_bytes bytes ∙ (ap (λ x. x ∷ words_of_bytes (bytes_of_words words)) value ∙ ap (λ t. w ∷ t) rest.same);
      long = ap length bytes ∙ omega (arith, rest.long);
    }

pub record FileAgain (N P : ℕ) (c : Shape) (bytes : List ℕ) : Type 0 where
  pub none : bad_word N P bytes ≡ None
  pub reads : shape_in (format_of bytes).packed N (words_of_bytes bytes) ≡ c

-- in one format
in_format : (f : Format) (N P : ℕ) (c : Shape) (bytes : List ℕ) → IsLawful N P c → has_bytes c ≡ true → f.mark < 2 ^ 32 → IsFileIn f N P c bytes → cond (f.mark == format_1.mark) format_1 format_2 ≡ f → FileAgain N P c bytes
unfolding bad_word
in_format f N P c bytes l byte mark file is =
    let W = words_in f N P c in
    let again = shape_again f N P c l byte file.widths in
    let back = words_back W (again.small mark) in
    let words : words_of_bytes bytes ≡ W = ap words_of_bytes file.spelled ∙ back.same in
    let long : length bytes ≡ 4 * length W = ap length file.spelled ∙ back.long in
    let format : format_of bytes ≡ f = ap (λ t. cond (slice_index t 0 == format_1.mark) format_1 format_2) words ∙ is in
    let ends : (length bytes == 4 * (0 + length (rules_in f N P W))) ≡ true = eq-eqb _ _ (omega (arith, long, again.long)) in
    let in_f : bad_from f N P 0 bytes ≡ None =
    ap (λ t. or_else (first_broken (rules_in f N P t) 0 t) (broken_end (0 + length (rules_in f N P t)) bytes)) words
    ∙ (ap (λ t. or_else t (broken_end (0 + length (rules_in f N P W)) bytes)) (again.none 0)
    ∙ ap (λ b. cond b None (Some (record { rule = 7; place = 0 + length (rules_in f N P W) }))) ends) in
    record {
      none = ap (λ t. bad_from t N P 0 bytes) format ∙ in_f;
      reads = ap (λ (t : Format). shape_in t.packed N (words_of_bytes bytes)) format ∙ (ap (shape_in f.packed N) words ∙ again.again);
    }

pub file_again : (N P : ℕ) (c : Shape) (bytes : List ℕ) → IsLawful N P c → has_bytes c ≡ true → IsFile N P c bytes → FileAgain N P c bytes
file_again N P c bytes l byte (inl file) = in_format format_1 N P c bytes l byte (omega arith) file refl
file_again N P c bytes l byte (inr file) = in_format format_2 N P c bytes l byte (omega arith) file refl
