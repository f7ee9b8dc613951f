-- A list of files with their names. Of two with one name the first counts.
use Rattle.std.specs.Prelude.{◌≡◌, ℕ, ◌<◌, Bool, true, false, List, [], ◌∷◌, length, Option, Some, None, nat_eq, unwrap_or, if◌then◌else◌, string_bytes, slice_index_or, String, Vec}
use Rattle.std.specs.Cmp.Lexicographic.{pointwise}
use Rattle.std.specs.declared.alloc.Global.{Global}

-- a name and the bytes
abbrev pub Named : Type 0
Named = String Global × Vec ℕ Global

abbrev pub has_name : List ℕ → Named → Bool
has_name name (its_name, bytes) = pointwise nat_eq (string_bytes its_name) name

-- the bytes of the first file of this name
abbrev pub file_in : List Named → List ℕ → Option (List ℕ)
file_in [] name = None
file_in (f ∷ fs) name = if has_name name f then Some f.1.items else file_in fs name

-- the bytes of the first file of this name, and none where there is no such file
abbrev pub sure_file : List Named → List ℕ → List ℕ
sure_file files name = unwrap_or (file_in files name) []

-- how far the first file of this name was read in order, where it was
abbrev pub reach_in : List Named → List (Option ℕ) → List ℕ → Option ℕ
reach_in [] reaches name = Some 0
reach_in (f ∷ fs) [] name = Some 0
reach_in (f ∷ fs) (r ∷ rs) name = if has_name name f then r else reach_in fs rs name

-- the first file of this name stands at this place
pub record IsFirst (files : List Named) (name : List ℕ) (i : ℕ) : Type 0 where
  pub within : i < length files
  pub here : (d : Named) → has_name name (slice_index_or files i d) ≡ true
  pub before : (k : ℕ) (d : Named) → k < i → has_name name (slice_index_or files k d) ≡ false
