-- Lines of names and of numbers.
use Rattle.std.specs.Prelude.{ℕ, Bool, true, false, List, [], ◌∷◌, ◌++◌, map, codes, decimal, Option, Some, None}
use Rattle.std.specs.List.{flat_map, join_with_byte}
use Rattle.std.specs.Simd.Lanes.{zip2}
use Rattle.pr_lens_tracks.specs.declared.looks.Track.{Track}
use Rattle.pr_lens_tracks.specs.Looks.{number_text}

abbrev pub index_text : Option ℕ → List ℕ
index_text None = []
index_text (Some k) = codes "[" ++ decimal k ++ codes "]"

-- a name, alone or with its index
abbrev pub track_text : Track → List ℕ
track_text t = t.name ++ index_text t.index

-- cells with a comma between, and the end of the line
abbrev pub cells_line : List (List ℕ) → List ℕ
cells_line cells = join_with_byte 44 cells ++ 10 ∷ []

-- what is left of a line of which some cells stand already, or none
abbrev pub rest_cells : Bool → List (List ℕ) → List ℕ
rest_cells true cells = flat_map (λ cell. 44 ∷ cell) cells ++ 10 ∷ []
rest_cells false cells = cells_line cells

abbrev pub names_line : List Track → List ℕ
names_line tracks = cells_line (map track_text tracks)

-- a number of a stream
abbrev pub cell_text : Track → ℕ → List ℕ
cell_text t number = number_text t.look number

abbrev pub numbers_line : List Track → List ℕ → List ℕ
numbers_line tracks numbers = cells_line (zip2 cell_text tracks numbers)
