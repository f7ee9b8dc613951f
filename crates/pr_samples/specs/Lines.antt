-- The lines of a text of samples, and the words of a line.
use Rattle.std.specs.Prelude.{ℕ, ◌==◌, ◌||◌, ◌&&◌, Bool, true, false, List, [], ◌∷◌, ◌++◌, map, if◌then◌else◌}
use Rattle.pr_samples.specs.declared.tails.Tail.{Tail}

-- the lines that stand with their LF, without it, and the bytes after the last LF
pub record Lines : Type 0 where
  pub whole : List (List ℕ)
  pub last : List ℕ

-- a byte before the first line
abbrev pub in_front : ℕ → List (List ℕ) → List ℕ → Lines
in_front b [] last = record { whole = []; last = b ∷ last }
in_front b (line ∷ lines) last = record { whole = (b ∷ line) ∷ lines; last = last }

abbrev pub with_byte : ℕ → Lines → Lines
with_byte b after = if b == 10 then record { whole = [] ∷ after.whole; last = after.last } else in_front b after.whole after.last

unfoldable pub lines_of : List ℕ → Lines
lines_of [] = record { whole = []; last = [] }
lines_of (b ∷ text) = with_byte b (lines_of text)

-- a line that ends by its LF or with the file, or one that the byte limit cuts
pub data Line : Type 0 where
  Whole : List ℕ → Line
  CutOff : List ℕ → Line

-- what the bytes after the last LF are, by what follows them: nothing yet, where more bytes may follow
abbrev pub last_line : Tail → List ℕ → List Line
last_line Tail.Open bytes = []
last_line Tail.Ended bytes = Whole bytes ∷ []
last_line Tail.Cut bytes = CutOff bytes ∷ []

-- the lines of a text in order
abbrev pub all_lines : Tail → Lines → List Line
all_lines tail lines = map Whole lines.whole ++ last_line tail lines.last

-- space and tab
abbrev pub is_blank : ℕ → Bool
is_blank b = b == 32 || b == 9

-- a byte in front of the words after it; `apart` says that a blank or the end stands between
abbrev pub with_letter : ℕ → Bool → List (List ℕ) → List (List ℕ)
with_letter b true words = (b ∷ []) ∷ words
with_letter b false [] = (b ∷ []) ∷ []
with_letter b false (word ∷ words) = (b ∷ word) ∷ words

-- the bytes begin with a blank, or there are none
abbrev pub begins_apart : List ℕ → Bool
begins_apart [] = true
begins_apart (b ∷ bytes) = is_blank b

-- the runs of bytes that are no blanks
unfoldable pub words_of : List ℕ → List (List ℕ)
words_of [] = []
words_of (b ∷ bytes) = if is_blank b then words_of bytes else with_letter b (begins_apart bytes) (words_of bytes)

abbrev pub is_empty : {A : Type 0} → List A → Bool
is_empty [] = true
is_empty (x ∷ xs) = false

-- a line without the CR at its end
unfoldable pub without_return : List ℕ → List ℕ
without_return [] = []
without_return (b ∷ bytes) = if b == 13 && is_empty bytes then [] else b ∷ without_return bytes
