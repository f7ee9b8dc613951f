-- Lists of programs: a line for each program.
use Rattle.std.specs.Prelude.{◌≡◌, ◌≤◌, ◌+◌, ◌⊎◌, ◌++◌, ◌&&◌, ℕ, Bool, true, not, List, [], ◌∷◌, length, map, take, filter, Option, Some, None, option_map, slice_get, string_bytes, if◌then◌else◌}
use Rattle.std.specs.Str.{is_utf8}
use Rattle.pr_samples.specs.Lines.{lines_of, words_of, without_return, begins_apart, is_empty}
use Rattle.pr_tool_words.specs.Lawful.{number_in}
use Rattle.pr_tool_share.specs.declared.entries.Entry.{Entry as Program}

-- what a line says: the names of a program's file and of its samples' file, and its quota
pub record Entry : Type 0 where
  pub program : List ℕ
  pub samples : List ℕ
  pub quota : ℕ

abbrev pub entry_in : Program → Entry
entry_in entry = record { program = string_bytes entry.program; samples = string_bytes entry.samples; quota = entry.quota }

-- the lines of a text: those that stand with their LF, and the bytes after the last LF where there are some
abbrev pub list_lines : List ℕ → List (List ℕ)
list_lines text = (lines_of text).whole ++ (if is_empty (lines_of text).last then [] else (lines_of text).last ∷ [])

-- a line that is not blank
abbrev pub counts : List ℕ → Bool
counts line = not (is_empty (words_of (without_return line)))

-- names are UTF-8, and a quota is from 1 to 1,000,000
abbrev pub entry_with : List ℕ → List ℕ → Option ℕ → Option Entry
entry_with program samples quota =
    if is_utf8 program && is_utf8 samples then option_map (λ n. record { program = program; samples = samples; quota = n }) quota else None

abbrev pub entry_by : List (List ℕ) → Option Entry
entry_by [] = None
entry_by (program ∷ []) = None
entry_by (program ∷ samples ∷ []) = None
entry_by (program ∷ samples ∷ quota ∷ []) = entry_with program samples (number_in 1 1000000 quota)
entry_by (program ∷ samples ∷ quota ∷ more ∷ words) = None

-- what a line says, which begins with the program's name; none where it is not as it should be
abbrev pub entry_of : List ℕ → Option Entry
entry_of line = if begins_apart (without_return line) then None else entry_by (words_of (without_return line))

-- these lines say this, but for those that are blank
pub record Say (lines : List (List ℕ)) (entries : List Entry) : Type 0 where
  pub entries_are : map entry_of (filter counts lines) ≡ map Some entries
  pub few : length entries ≤ 8

-- the list has these entries
pub record IsListed (text : List ℕ) (entries : List Entry) : Type 0 where
  pub say : Say (list_lines text) entries
  pub some : 1 ≤ length entries

-- the lines before this one are as they should be, and it is not, or it is the ninth that is not blank
pub record IsWrong (text : List ℕ) (line : ℕ) : Type 0 where
  pub entries : List Entry
  pub before : Say (take line (list_lines text)) entries
  pub bytes : List ℕ
  pub here : slice_get (list_lines text) line ≡ Some bytes
  pub counted : counts bytes ≡ true
  pub wrong : (entry_of bytes ≡ None) ⊎ (length entries ≡ 8)

-- there is no line that is not blank
pub record IsBare (text : List ℕ) (line : ℕ) : Type 0 where
  pub bare : filter counts (list_lines text) ≡ []
  pub end : line ≡ length (list_lines text)

-- the list is bad at this line, counted from 1
abbrev pub IsBadAt : List ℕ → ℕ → Type 0
IsBadAt text line = (before : ℕ) × ((line ≡ before + 1) × (IsWrong text before ⊎ IsBare text before))
