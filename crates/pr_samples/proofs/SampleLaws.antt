-- What holds of every sample.
use Rattle.std.proofs.Common.{◌≡◌, ℕ, zero, suc, ◌+◌, ◌^◌, ◌≤◌, ◌==◌, ◌&&◌, nat_lt, Bool, true, false, List, [], ◌∷◌, length, Option, Some, None, refl, arith, rules, if◌then◌else◌}
use Rattle.std.specs.Prelude.{All, option_map, IfSome, ⊤}
use Rattle.std.specs.List.{list_all}
use Rattle.std.proofs.lemmas.List.Elements.{All-cons}
use Rattle.std.proofs.lemmas.Bool.{ltb-true, eqb-true, false≢true}
use Rattle.pr_base.specs.Rows.{IsRow}
use Rattle.pr_samples.specs.Lines.{Line, Whole, CutOff, words_of, without_return}
use Rattle.pr_samples.specs.Fed.{is_digit, value_after, is_number, numbers_of, Taken, Skipped, Lawful, Unlawful, CutShort, lawful_if, whole_taken, begins_lawful, taken, Fed, line_and, fed_lines}

second : (x y : Bool) → (x && y) ≡ true → y ≡ true
second true y h = h
second false y h = absurd (false≢true h)

numbers_of-row : (widths : List ℕ) (words : List (List ℕ)) → length words ≡ length widths → IfSome (numbers_of widths words) (IsRow widths)
numbers_of-row [] [] h = tt
numbers_of-row [] (x ∷ xs) h = tt
numbers_of-row (w ∷ widths) [] h = absurd (omega arith)
numbers_of-row (w ∷ widths) (x ∷ xs) h = by (is_number w x) refl (numbers_of widths xs) (numbers_of-row widths xs (omega arith))
  where
    by : (t : Bool) → is_number w x ≡ t → (o : Option (List ℕ)) → IfSome o (IsRow widths) → IfSome (if t then option_map (λ ns. value_after 0 x ∷ ns) o else None) (IsRow (w ∷ widths))
    by false e o row = tt
    by true e None row = tt
    by true e (Some ns) row = (ltb-true (value_after 0 x) (2 ^ w) (second (list_all is_digit x) (nat_lt (value_after 0 x) (2 ^ w)) e), row)

-- a sample that is taken has a number for each input, below its bound
abbrev IsGood : List ℕ → Taken → Type 0
IsGood widths Skipped = ⊤
IsGood widths (Lawful ns) = IsRow widths ns
IsGood widths Unlawful = ⊤
IsGood widths CutShort = ⊤

taken-good : (widths : List ℕ) (line : Line) → IsGood widths (taken widths line)
taken-good widths (Whole bytes) = whole widths (words_of (without_return bytes))
  where
    whole : (widths : List ℕ) (words : List (List ℕ)) → IsGood widths (whole_taken widths words)
    whole widths [] = tt
    whole widths (x ∷ xs) = by (length (x ∷ xs) == length widths) refl (numbers_of widths (x ∷ xs)) (numbers_of-row widths (x ∷ xs))
      where
        by : (t : Bool) → (length (x ∷ xs) == length widths) ≡ t → (o : Option (List ℕ)) → (length (x ∷ xs) ≡ length widths → IfSome o (IsRow widths)) → IsGood widths (if t then lawful_if o else Unlawful)
        by false e o row = tt
        by true e None row = tt
        by true e (Some ns) row = row (eqb-true (length (x ∷ xs)) (length widths) e)
taken-good widths (CutOff bytes) = cut (begins_lawful widths bytes)
  where
    cut : (t : Bool) → IsGood widths (if t then CutShort else Unlawful)
    cut true = tt
    cut false = tt

line_and-rows : (widths : List ℕ) (t : Taken) (number most : ℕ) (after : ℕ → Fed) → IsGood widths t → ((left : ℕ) → All (IsRow widths) (after left).samples) → All (IsRow widths) (line_and t number most after).samples
line_and-rows widths Skipped number most after good rows = rows most
line_and-rows widths (Lawful ns) number zero after good rows = search rules
line_and-rows widths (Lawful ns) number (suc most) after good rows = All-cons (IsRow widths) ns (after most).samples good (rows most)
line_and-rows widths Unlawful number most after good rows = search rules
line_and-rows widths CutShort number most after good rows = search rules

pub fed_lines-rows : (widths : List ℕ) (lines : List Line) (most passed : ℕ) → All (IsRow widths) (fed_lines widths most passed lines).samples
unfolding fed_lines
fed_lines-rows widths [] most passed = search rules
fed_lines-rows widths (line ∷ lines) most passed = line_and-rows widths (taken widths line) (passed + 1) most _ (taken-good widths line) (λ left. fed_lines-rows widths lines left (passed + 1))

line_and-count : (t : Taken) (number most : ℕ) (after : ℕ → Fed) → ((left : ℕ) → length (after left).samples ≤ left) → length (line_and t number most after).samples ≤ most
line_and-count Skipped number most after fits = fits most
line_and-count (Lawful ns) number zero after fits = omega arith
line_and-count (Lawful ns) number (suc most) after fits = omega (arith, fits most)
line_and-count Unlawful number most after fits = omega arith
line_and-count CutShort number most after fits = omega arith

pub fed_lines-count : (widths : List ℕ) (lines : List Line) (most passed : ℕ) → length (fed_lines widths most passed lines).samples ≤ most
unfolding fed_lines
fed_lines-count widths [] most passed = omega arith
fed_lines-count widths (line ∷ lines) most passed = line_and-count (taken widths line) (passed + 1) most _ (λ left. fed_lines-count widths lines left (passed + 1))
