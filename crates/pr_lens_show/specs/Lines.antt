-- A line of a text with marks below it.
use Rattle.std.specs.Prelude.{◌≡◌, ℕ, ◌+◌, ◌-◌, ◌==◌, max, min, nat_lt, Bool, List, [], ◌∷◌, ◌++◌, length, map, replicate, slice_range, codes, decimal, if◌then◌else◌}
use Rattle.pr_lens_text.specs.declared.lines.Line.{Line}
use Rattle.pr_lens_text.specs.Places.{IsLine}
use Rattle.pr_lens_show.specs.Bytes.{shown}

-- the part of a line that is shown: no more than 100 bytes before a place, and 60 from it on
abbrev pub shown_from : Line → ℕ → ℕ
shown_from line start = max line.start (start - 100)

abbrev pub shown_to : Line → ℕ → ℕ
shown_to line start = min line.end (start + 60)

-- the sign `…` in UTF-8, where there is more of the line, and a blank below it
abbrev pub left_out : Bool → List ℕ
left_out more = if more then 226 ∷ 128 ∷ 166 ∷ [] else []

abbrev pub room_of : Bool → List ℕ
room_of more = if more then 32 ∷ [] else []

-- the part with its number
unfoldable pub line_text : List ℕ → Line → ℕ → ℕ → List ℕ
line_text text line from to =
    (codes "  " ++ decimal line.number) ++ codes " | " ++ left_out (nat_lt line.start from) ++ shown (slice_range text from to)
    ++ left_out (nat_lt to line.end) ++ codes "\n"

-- what takes as much room as a line's number
unfoldable pub margin_text : ℕ → List ℕ
margin_text number = codes "  " ++ replicate (length (decimal number)) 32 ++ codes " | "

-- a blank in the place of a byte; a tab stays a tab
abbrev pub blank_for : ℕ → ℕ
blank_for byte = if byte == 9 then 9 else 32

-- so many marks below a place, one at least
unfoldable pub marks_text : ℕ → Bool → List ℕ → ℕ → List ℕ
marks_text number more before count = margin_text number ++ room_of more ++ map blank_for before ++ replicate (max count 1) 94 ++ codes "\n"

-- a line of a text, and marks below its bytes from the first place to the second
unfoldable pub source_text : List ℕ → Line → ℕ → ℕ → List ℕ
source_text text line start end =
    line_text text line (shown_from line start) (shown_to line start)
    ++ marks_text line.number (nat_lt line.start (shown_from line start)) (shown (slice_range text (shown_from line start) start))
    (length (shown (slice_range text start (max (min end (shown_to line start)) start))))

-- the line of the first place is shown behind what stood there
pub record Shows (text : List ℕ) (start end : ℕ) (old new : List ℕ) : Type 0 where
  pub line : Line
  pub is_line : IsLine text start line
  pub is : new ≡ old ++ source_text text line start end
