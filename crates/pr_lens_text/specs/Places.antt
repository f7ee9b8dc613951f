-- Lines and columns. A line ends before a line feed, or with the text.
use Rattle.std.specs.Prelude.{ℕ, ◌≡◌, ◌≢◌, ◌⊎◌, ◌+◌, ◌-◌, ◌<◌, ◌≤◌, List, length, take, count_by, slice_index}
use Rattle.pr_lang.specs.Spelling.{is_line_feed}
use Rattle.pr_lens_text.specs.declared.lines.Line.{Line}
use Rattle.pr_lens_text.specs.declared.places.Place.{Place}

-- no line feed stands in this part
abbrev pub HasNoEnd : List ℕ → ℕ → ℕ → Type 0
HasNoEnd text from to = (k : ℕ) → from ≤ k → k < to → slice_index text k ≢ 10

-- a line begins here
abbrev pub IsEndBefore : List ℕ → ℕ → Type 0
IsEndBefore text start = (start ≡ 0) ⊎ (slice_index text (start - 1) ≡ 10)

-- a line ends here
abbrev pub IsEndAt : List ℕ → ℕ → Type 0
IsEndAt text end = (end ≡ length text) ⊎ (slice_index text end ≡ 10)

-- the line in which so many bytes stand before a byte
pub record IsLine (text : List ℕ) (offset : ℕ) (line : Line) : Type 0 where
  pub number : line.number ≡ count_by is_line_feed (take offset text) + 1
  pub before : line.start ≤ offset
  pub behind : offset ≤ line.end
  pub within : line.end ≤ length text
  pub none_before : HasNoEnd text line.start offset
  pub none_behind : HasNoEnd text offset line.end
  pub begins : IsEndBefore text line.start
  pub ends : IsEndAt text line.end

-- the place of a byte: how many lines end before it, and how far it is from where its line begins
pub record IsPlace (text : List ℕ) (offset : ℕ) (place : Place) : Type 0 where
  pub offset_is : place.offset ≡ offset
  pub line : place.line ≡ count_by is_line_feed (take offset text) + 1
  pub start : ℕ
  pub column : place.column ≡ offset - start + 1
  pub within : start ≤ offset
  pub none : HasNoEnd text start offset
  pub begins : IsEndBefore text start
