-- The samples of a text, and how they end.
use Rattle.std.specs.Prelude.{◌≡◌, ℕ, zero, suc, ◌+◌, ◌-◌, ◌*◌, ◌^◌, ◌==◌, ◌||◌, ◌&&◌, not, nat_lt, nat_le, Bool, true, List, [], ◌∷◌, ◌++◌, length, take, Option, Some, None, is_some, option_map, if◌then◌else◌}
use Rattle.std.specs.List.{list_any, list_all}
use Rattle.pr_base.specs.declared.caps.Cap.{Cap}
use Rattle.pr_samples.specs.declared.tails.Tail.{Tail}
use Rattle.pr_samples.specs.Lines.{Line, Whole, CutOff, lines_of, all_lines, words_of, without_return}

-- the decimal digits
abbrev pub is_digit : ℕ → Bool
is_digit b = nat_le 48 b && nat_le b 57

-- the number that digits write after those of n
abbrev pub value_after : ℕ → List ℕ → ℕ
value_after n [] = n
value_after n (b ∷ digits) = value_after (10 * n + (b - 48)) digits

-- a word is a number of an input of this width: it has digits alone, and its number is below 2 to the width
abbrev pub is_number : ℕ → List ℕ → Bool
is_number width word = list_all is_digit word && nat_lt (value_after 0 word) (2 ^ width)

-- the numbers of these words, one for each of the first inputs; none where a word is no number of its input
abbrev pub numbers_of : List ℕ → List (List ℕ) → Option (List ℕ)
numbers_of widths [] = Some []
numbers_of [] (word ∷ words) = None
numbers_of (w ∷ widths) (word ∷ words) = if is_number w word then option_map (λ ns. value_after 0 word ∷ ns) (numbers_of widths words) else None

-- what becomes of a line: it is blank, it is a sample, it is bad, or the limit cut it and it may be a sample
pub data Taken : Type 0 where
  Skipped : Taken
  Lawful : List ℕ → Taken
  Unlawful : Taken
  CutShort : Taken

abbrev pub lawful_if : Option (List ℕ) → Taken
lawful_if None = Unlawful
lawful_if (Some ns) = Lawful ns

-- a whole line by its words: it is skipped without any, and a sample where they are the numbers of all inputs
abbrev pub whole_taken : List ℕ → List (List ℕ) → Taken
whole_taken widths [] = Skipped
whole_taken widths (word ∷ words) = if length (word ∷ words) == length widths then lawful_if (numbers_of widths (word ∷ words)) else Unlawful

-- a line has a number for each input
pub record IsLawful (widths line : List ℕ) : Type 0 where
  pub count : length (words_of (without_return line)) ≡ length widths
  pub numbers : is_some (numbers_of widths (words_of (without_return line))) ≡ true

-- these bytes begin a lawful line: their words are numbers of the first inputs, and of all inputs where they end in CR
abbrev pub begins_lawful : List ℕ → List ℕ → Bool
begins_lawful widths bytes =
    let words = words_of (without_return bytes) in
    is_some (numbers_of widths words) && (not (list_any (λ b. b == 13) bytes) || length words == length widths)

abbrev pub taken : List ℕ → Line → Taken
taken widths (Whole bytes) = whole_taken widths (words_of (without_return bytes))
taken widths (CutOff bytes) = if begins_lawful widths bytes then CutShort else Unlawful

-- how samples end: with the file, with this bad line, counted from 1, or by this limit
pub data Ending : Type 0 where
  End : Ending
  BadSample : ℕ → Ending
  Limit : Cap → Ending

pub record Fed : Type 0 where
  pub samples : List (List ℕ)
  pub ending : Ending

-- no further sample
abbrev pub ending_by : Ending → Fed
ending_by ending = record { samples = []; ending = ending }

-- these samples before the others
abbrev pub before : List (List ℕ) → Fed → Fed
before samples fed = record { samples = samples ++ fed.samples; ending = fed.ending }

-- the line of this number, where `most` further samples are allowed, and then the lines after it
abbrev pub line_and : Taken → ℕ → ℕ → (ℕ → Fed) → Fed
line_and Skipped number most after = after most
line_and (Lawful ns) number zero after = ending_by (Limit Cap.Samples)
line_and (Lawful ns) number (suc most) after = before (ns ∷ []) (after most)
line_and Unlawful number most after = ending_by (BadSample number)
line_and CutShort number most after = ending_by (Limit Cap.SampleBytes)

-- the samples of these lines, which follow `passed` lines
unfoldable pub fed_lines : List ℕ → ℕ → ℕ → List Line → Fed
fed_lines widths most passed [] = ending_by End
fed_lines widths most passed (line ∷ lines) = line_and (taken widths line) (passed + 1) most (λ left. fed_lines widths left (passed + 1) lines)

-- the samples of a text, by what follows it, after `passed` lines
unfoldable pub fed_text : List ℕ → ℕ → ℕ → Tail → List ℕ → Fed
fed_text widths most passed tail text = fed_lines widths most passed (all_lines tail (lines_of text))

-- what follows the bytes of a file before the limit
abbrev pub tail_of : ℕ → List ℕ → Tail
tail_of limit file = if nat_lt limit (length file) then Tail.Cut else Tail.Ended

-- the samples of a file with inputs of these widths, where at most `limit` bytes and `most` samples are allowed
abbrev pub fed_of : List ℕ → ℕ → ℕ → List ℕ → Fed
fed_of widths limit most file = fed_text widths most 0 (tail_of limit file) (take limit file)

-- the samples of the lines that stand with their LF in the first `reach` bytes
abbrev pub fed_within : List ℕ → ℕ → ℕ → List ℕ → ℕ → Fed
fed_within widths limit most file reach = fed_text widths most 0 Tail.Open (take reach (take limit file))
