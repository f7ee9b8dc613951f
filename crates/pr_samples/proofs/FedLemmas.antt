-- A text of samples, read byte by byte.
use Rattle.std.proofs.Common.{◌≡◌, ℕ, ◌+◌, ◌==◌, Bool, true, false, List, [], ◌∷◌, ◌++◌, length, refl, ap, sym, ◌∙◌, append-nil, append_assoc, if◌then◌else◌}
use Rattle.pr_samples.specs.declared.tails.Tail.{Tail}
use Rattle.std.specs.Prelude.{⊤, Option, Some, None}
use Rattle.std.proofs.lemmas.Bool.{eqb-true, false≢true, true≢false}
use Rattle.pr_samples.specs.Lines.{Whole, lines_of, words_of, without_return, is_empty}
use Rattle.pr_samples.specs.Fed.{fed_text, fed_lines, line_and, Taken, Skipped, Lawful, Unlawful, CutShort, lawful_if, whole_taken, numbers_of, taken}
use Rattle.pr_samples.specs.Scan.{Scan, First, Missing, Found, first_line, first_or, step, whole_end, fresh}
use Rattle.pr_samples.specs.Feed.{first_fed, has_line}
use Rattle.pr_samples.proofs.WordLemmas.{scanned, scanned-push, whole_end-taken, cut_end-taken}

pub first_line-none : (widths : List ℕ) (s : Scan) (passed : ℕ) → first_line widths s passed [] ≡ Missing s passed
unfolding first_line
first_line-none widths s passed = refl

-- no LF is among these bytes
abbrev NoEnd : List ℕ → Type 0
NoEnd [] = ⊤
NoEnd (b ∷ bytes) = ((b == 10) ≡ false) × NoEnd bytes

NoEnd-push : (bytes : List ℕ) (b : ℕ) → NoEnd bytes → (b == 10) ≡ false → NoEnd (bytes ++ b ∷ [])
NoEnd-push [] b h e = (e, tt)
NoEnd-push (x ∷ bytes) b h e = (h.0, NoEnd-push bytes b h.1 e)

-- the bytes of an open line
lines_of-open : (bytes : List ℕ) → NoEnd bytes → lines_of bytes ≡ record { whole = []; last = bytes }
unfolding lines_of
lines_of-open [] h = refl
lines_of-open (b ∷ bytes) h = rw (h.0, lines_of-open bytes h.1) refl

-- the bytes of a line, its LF and more
lines_of-whole : (bytes text : List ℕ) → NoEnd bytes → lines_of (bytes ++ 10 ∷ text) ≡ record { whole = bytes ∷ (lines_of text).whole; last = (lines_of text).last }
unfolding lines_of
lines_of-whole [] text h = refl
lines_of-whole (b ∷ bytes) text h = rw (h.0, lines_of-whole bytes text h.1) refl

first_line-other : (widths : List ℕ) (s : Scan) (passed b : ℕ) (text : List ℕ) → (b == 10) ≡ false → first_line widths s passed (b ∷ text) ≡ first_line widths (step s b) passed text
unfolding first_line
first_line-other widths s passed b text h = rw h refl

first_line-lf : (widths : List ℕ) (s : Scan) (passed b : ℕ) (text : List ℕ) → (b == 10) ≡ true
    → first_line widths s passed (b ∷ text) ≡ first_or (whole_end s) (passed + 1) text (first_line widths (fresh widths) (passed + 1) text)
unfolding first_line
first_line-lf widths s passed b text h = rw h refl

is_lf : (b : ℕ) → (b == 10) ≡ true → b ≡ 10
is_lf b h = eqb-true b 10 h

-- the lines of a text whose first line is open
fed_text-open : (widths : List ℕ) (most passed : ℕ) (tail : Tail) (bytes : List ℕ) → NoEnd bytes
    → fed_text widths most passed tail bytes ≡ first_fed widths most tail (Missing (scanned (fresh widths) bytes) passed)
unfolding fed_text fed_lines
fed_text-open widths most passed Tail.Open bytes h = rw (lines_of-open bytes h) refl
fed_text-open widths most passed Tail.Ended bytes h = rw (lines_of-open bytes h, whole_end-taken widths bytes) refl
fed_text-open widths most passed Tail.Cut bytes h = rw (lines_of-open bytes h, cut_end-taken widths bytes) refl

-- the lines of a text whose first line is whole
fed_text-whole : (widths : List ℕ) (most passed : ℕ) (tail : Tail) (bytes text : List ℕ) → NoEnd bytes
    → fed_text widths most passed tail (bytes ++ 10 ∷ text) ≡ line_and (taken widths (Whole bytes)) (passed + 1) most (λ left. fed_text widths left (passed + 1) tail text)
unfolding fed_text fed_lines
fed_text-whole widths most passed tail bytes text h = rw (lines_of-whole bytes text h) refl

-- a line, and what is found after it
line_first : (widths : List ℕ) (most number : ℕ) (tail : Tail) (text : List ℕ) (t : Taken) (after : First) → fed_text widths most number tail text ≡ first_fed widths most tail after
    → line_and t number most (λ left. fed_text widths left number tail text) ≡ first_fed widths most tail (first_or t number text after)
line_first widths most number tail text Skipped after h = h
line_first widths most number tail text (Lawful ns) after h = refl
line_first widths most number tail text Unlawful after h = refl
line_first widths most number tail text CutShort after h = refl

-- a text of which some bytes of the first line were read
fed_text-read : (widths : List ℕ) (most passed : ℕ) (tail : Tail) (text bytes : List ℕ) → NoEnd bytes
    → fed_text widths most passed tail (bytes ++ text) ≡ first_fed widths most tail (first_line widths (scanned (fresh widths) bytes) passed text)
fed_text-read widths most passed tail [] bytes h =
    ap (fed_text widths most passed tail) (append-nil bytes) ∙ fed_text-open widths most passed tail bytes h ∙ ap (first_fed widths most tail) (sym (first_line-none widths (scanned (fresh widths) bytes) passed))
fed_text-read widths most passed tail (b ∷ text) bytes h = by (b == 10) refl (fed_text-read widths most (passed + 1) tail text [] tt) (fed_text-read widths most passed tail text (bytes ++ b ∷ []))
  where
    by : (t : Bool) → (b == 10) ≡ t
        → fed_text widths most (passed + 1) tail text ≡ first_fed widths most tail (first_line widths (fresh widths) (passed + 1) text)
        → (NoEnd (bytes ++ b ∷ []) → fed_text widths most passed tail ((bytes ++ b ∷ []) ++ text) ≡ first_fed widths most tail (first_line widths (scanned (fresh widths) (bytes ++ b ∷ [])) passed text))
        → fed_text widths most passed tail (bytes ++ b ∷ text) ≡ first_fed widths most tail (first_line widths (scanned (fresh widths) bytes) passed (b ∷ text))
    by true e next more =
        ap (λ x. fed_text widths most passed tail (bytes ++ x ∷ text)) (is_lf b e)
        ∙ fed_text-whole widths most passed tail bytes text h
        ∙ line_first widths most (passed + 1) tail text (taken widths (Whole bytes)) (first_line widths (fresh widths) (passed + 1) text) next
        ∙ ap (λ t. first_fed widths most tail (first_or t (passed + 1) text (first_line widths (fresh widths) (passed + 1) text))) (sym (whole_end-taken widths bytes))
        ∙ ap (first_fed widths most tail) (sym (first_line-lf widths (scanned (fresh widths) bytes) passed b text e))
    by false e next more =
        ap (fed_text widths most passed tail) (sym (append_assoc bytes (b ∷ []) text))
        ∙ more (NoEnd-push bytes b h e)
        ∙ ap (λ s. first_fed widths most tail (first_line widths s passed text)) (scanned-push (fresh widths) bytes b)
        ∙ ap (first_fed widths most tail) (sym (first_line-other widths (scanned (fresh widths) bytes) passed b text e))

-- a text is read from its first line on
pub fed_text-first : (widths : List ℕ) (most passed : ℕ) (tail : Tail) (text : List ℕ) → fed_text widths most passed tail text ≡ first_fed widths most tail (first_line widths (fresh widths) passed text)
fed_text-first widths most passed tail text = fed_text-read widths most passed tail text [] tt

pub found_is_met : (taken : Taken) (number : ℕ) (rest : List ℕ) (s : Scan) (passed : ℕ) → Found taken number rest ≡ Missing s passed → ⊥
found_is_met taken number rest s passed h = cc

-- a line with words is a sample or bad
whole_found : (widths : List ℕ) (words : List (List ℕ)) (number : ℕ) (rest : List ℕ) (after : First) (s : Scan) (n : ℕ) → is_empty words ≡ false → first_or (whole_taken widths words) number rest after ≡ Missing s n → ⊥
whole_found widths [] number rest after s n e is = absurd (true≢false e)
whole_found widths (x ∷ xs) number rest after s n e is = by (length (x ∷ xs) == length widths) (numbers_of widths (x ∷ xs)) is
  where
    by : (t : Bool) (o : Option (List ℕ)) → first_or (if t then lawful_if o else Unlawful) number rest after ≡ Missing s n → ⊥
    by true None is = cc
    by true (Some ns) is = cc
    by false o is = cc

blank_skips : (widths : List ℕ) (words : List (List ℕ)) (number : ℕ) (rest : List ℕ) (after : First) → is_empty words ≡ true → first_or (whole_taken widths words) number rest after ≡ after
blank_skips widths [] number rest after e = refl
blank_skips widths (x ∷ xs) number rest after e = absurd (false≢true e)

-- a line that is not blank is found, also where some bytes of the first line were read
line_found-read : (widths : List ℕ) (passed : ℕ) (text bytes : List ℕ) (s : Scan) (n : ℕ) → NoEnd bytes → has_line (bytes ++ text) ≡ true
    → first_line widths (scanned (fresh widths) bytes) passed text ≡ Missing s n → ⊥
unfolding has_line
line_found-read widths passed [] bytes s n h line is = false≢true (rw (append-nil bytes, lines_of-open bytes h) at line)
line_found-read widths passed (b ∷ text) bytes s n h line is = by (b == 10) refl (line_found-read widths (passed + 1) text [] s n tt) (line_found-read widths passed text (bytes ++ b ∷ []) s n)
  where
    words : List (List ℕ)
    words = words_of (without_return bytes)

    by : (t : Bool) → (b == 10) ≡ t
        → (has_line text ≡ true → first_line widths (fresh widths) (passed + 1) text ≡ Missing s n → ⊥)
        → (NoEnd (bytes ++ b ∷ []) → has_line ((bytes ++ b ∷ []) ++ text) ≡ true → first_line widths (scanned (fresh widths) (bytes ++ b ∷ [])) passed text ≡ Missing s n → ⊥)
        → ⊥
    by true e next more = ends (is_empty words) refl
      where
        later : First
        later = first_line widths (fresh widths) (passed + 1) text

        met : first_or (whole_taken widths words) (passed + 1) text later ≡ Missing s n
        met = ap (λ t. first_or t (passed + 1) text later) (sym (whole_end-taken widths bytes)) ∙ sym (first_line-lf widths (scanned (fresh widths) bytes) passed b text e) ∙ is

        ends : (t : Bool) → is_empty words ≡ t → ⊥
        ends true blank = next (rw (is_lf b e, lines_of-whole bytes text h, blank) at line) (sym (blank_skips widths words (passed + 1) text later blank) ∙ met)
        ends false letters = whole_found widths words (passed + 1) text later s n letters met
    by false e next more =
        more (NoEnd-push bytes b h e) (rw (append_assoc bytes (b ∷ []) text) line) (rw (scanned-push (fresh widths) bytes b, ← first_line-other widths (scanned (fresh widths) bytes) passed b text e) is)

-- a line that is not blank and stands with its LF is found
pub line_found : (widths : List ℕ) (passed : ℕ) (bytes : List ℕ) (s : Scan) (n : ℕ) → has_line bytes ≡ true → first_line widths (fresh widths) passed bytes ≡ Missing s n → ⊥
line_found widths passed bytes s n line is = line_found-read widths passed bytes [] s n tt line is
