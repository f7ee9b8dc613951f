-- Comments: what the columns of stages carry.
use Rattle.std.specs.Prelude.{◌≡◌, ℕ, ◌+◌, ◌-◌, ◌*◌, ◌==◌, ◌||◌, ◌&&◌, not, nat_eq, Bool, true, false, List, [], ◌++◌, Option, None, Some, codes, option_map, slice_index_or, if◌then◌else◌}
use Rattle.std.specs.List.{list_all, slice_get}
use Rattle.std.specs.Option.{option_eq}
use Rattle.pr_lang.specs.Spelling.{is_name_byte}
use Rattle.pr_lens_rtl.specs.declared.vectors.Part.{Part}
use Rattle.pr_lens_rtl.specs.declared.vectors.Net.{Net}
use Rattle.pr_lens_rtl.specs.Kept.{is_kept}
use Rattle.pr_lens_rtl_text.specs.declared.notes.Notes.{Notes}

-- what is noted of each vector, if anything is
abbrev pub Comments : Type 0
Comments = Net → Option (List ℕ)

-- ---- the comment behind a line
-- a letter, a digit, an underscore, a space, a comma or a bracket: so a comment never goes on in the next line
abbrev pub is_note_byte : ℕ → Bool
is_note_byte c = is_name_byte c || (c == 32 || (c == 44 || (c == 91 || c == 93)))

-- such a label, behind two slashes; nothing for another label, or for none
abbrev pub tail_text : Option (List ℕ) → List ℕ
tail_text None = []
tail_text (Some label) = if list_all is_note_byte label then codes " // " ++ label else []

-- ---- the labels of columns
-- the place of the label of a column of a stage, if it has one
abbrev pub place_at : Notes → (stage col : ℕ) → Option ℕ
place_at notes stage col = slice_index_or notes.owners.items (stage * notes.columns + col) None

-- the label at a place
abbrev pub label_at : Notes → Option ℕ → Option (List ℕ)
label_at notes None = None
label_at notes (Some place) = option_map (λ label. label.items) (slice_get notes.labels.items place)

abbrev pub label_of : Notes → (stage col : ℕ) → Option (List ℕ)
label_of notes stage col = label_at notes (place_at notes stage col)

-- ---- the labels of vectors
-- of the vectors of a column its output and its state may have its label
abbrev pub is_noted : Part → Bool
is_noted Part.Output = true
is_noted Part.State = true
is_noted other = false

-- the column to the left has the same label, and the same vector of it is written
abbrev pub is_repeated : Notes → List Bool → Part → (stage col : ℕ) → Bool
is_repeated notes marks part stage col =
    if col == 0 then false else is_kept marks (Net.Of part stage (col - 1)) && option_eq nat_eq (place_at notes stage (col - 1)) (place_at notes stage col)

-- What is noted of a vector, where these are written: the label of its column. One label serves for all columns side by
-- side that have it
unfoldable pub note_of : Notes → List Bool → Comments
note_of notes marks (Net.Of part stage col) = if is_noted part && not (is_repeated notes marks part stage col) then label_of notes stage col else None
note_of notes marks other = None

-- no column has a label
abbrev pub AreBare : Notes → Type 0
AreBare notes = notes.owners.items ≡ []
