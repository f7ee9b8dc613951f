-- Lists of names, with a comma between: `x,d` has the names `x` and `d`.
use Rattle.std.specs.Prelude.{ℕ, Bool, false, not, List, eqb, Option, Some, None, bytes_eq}
use Rattle.std.specs.List.{list_any, position, slice_split}
use Rattle.pr_lens_tracks.specs.declared.looks.Track.{Track}

abbrev pub names_in : List ℕ → List (List ℕ)
names_in list = slice_split (λ b. eqb b 44) list

-- whether a name is one of a list, where there is one
abbrev pub is_listed : Option (List ℕ) → List ℕ → Bool
is_listed None name = false
is_listed (Some list) name = list_any (λ n. bytes_eq n name) (names_in list)

-- whether a stream has the name
abbrev pub has_name : List Track → List ℕ → Bool
has_name tracks name = list_any (λ t. bytes_eq t.name name) tracks

-- the place of the first name of a list that no stream has
abbrev pub unknown_in : List Track → List ℕ → Option ℕ
unknown_in tracks list = position (λ n. not (has_name tracks n)) (names_in list)
