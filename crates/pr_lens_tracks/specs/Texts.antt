-- Whole texts of streams, by the rows of their numbers.
use Rattle.std.specs.Prelude.{ℕ, ◌≡◌, ◌+◌, ◌<◌, List, [], ◌∷◌, ◌++◌, length, map, nat_lt}
use Rattle.pr_lens_tracks.specs.declared.looks.Form.{Form}
use Rattle.pr_lens_tracks.specs.declared.looks.Form.TheVariants.{Csv, Wave}
use Rattle.pr_lens_tracks.specs.declared.looks.Track.{Track}
use Rattle.pr_lens_tracks.specs.declared.pens.Pen.{Pen}
use Rattle.pr_lens_tracks.specs.Tables.{names_line, numbers_line}
use Rattle.pr_lens_tracks.specs.Waves.{wave_head, changes_text, time_text, width_of}

abbrev pub head_text : Form → List Track → List ℕ
head_text Csv tracks = names_line tracks
head_text Wave tracks = wave_head tracks

-- the text of a row, where so many rows stand before it, the last of them this one
abbrev pub row_text : Form → List Track → ℕ → List ℕ → List ℕ → List ℕ
row_text Csv tracks count before row = numbers_line tracks row
row_text Wave tracks count before row = changes_text (map width_of tracks) (nat_lt 0 count) before row ++ time_text (count + 1)

-- the text of further rows
abbrev pub rows_from : Form → List Track → ℕ → List ℕ → List (List ℕ) → List ℕ
rows_from form tracks count before [] = []
rows_from form tracks count before (row ∷ rows) = row_text form tracks count before row ++ rows_from form tracks (count + 1) row rows

abbrev pub rows_text : Form → List Track → List (List ℕ) → List ℕ
rows_text form tracks rows = rows_from form tracks 0 [] rows

-- the names of streams, and then their numbers
abbrev pub streams_text : Form → List Track → List (List ℕ) → List ℕ
streams_text form tracks rows = head_text form tracks ++ rows_text form tracks rows

-- the last of these rows, or the one before them
abbrev pub last_from : List ℕ → List (List ℕ) → List ℕ
last_from before [] = before
last_from before (row ∷ rows) = last_from row rows

-- the text of a row behind these rows
abbrev pub text_behind : Form → List Track → List (List ℕ) → List ℕ → List ℕ
text_behind form tracks rows row = row_text form tracks (length rows) (last_from [] rows) row

-- a pen wrote these rows
pub record HasWritten (rows : List (List ℕ)) (pen : Pen) : Type 0 where
  pub count : pen.count ≡ length rows
  pub before : 0 < length rows → pen.before.items ≡ last_from [] rows
