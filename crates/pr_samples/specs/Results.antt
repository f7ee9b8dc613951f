-- How the line of a result is put down piece by piece.
use Rattle.std.specs.Prelude.{◌≡◌, ℕ, Bool, true, false, List, [], ◌∷◌, ◌++◌, decimal}
use Rattle.std.specs.List.{flat_map}
use Rattle.pr_base.specs.Rows.{row_numbers, row_line}
use Rattle.pr_edge.specs.Tape.{Tape, Appends}

-- the line of a result, by the outputs' widths and its bytes
abbrev pub result_line : List ℕ → List ℕ → List ℕ
result_line widths bytes = row_line (row_numbers widths bytes)

-- what is left of a line of which numbers stand already, or none
abbrev pub rest_line : Bool → List ℕ → List ℕ
rest_line true numbers = flat_map (λ n. 32 ∷ decimal n) numbers ++ 10 ∷ []
rest_line false numbers = row_line numbers

-- a line of which some bytes were written, some stand in a buffer, and the rest is to come
pub record IsPut (old now : Tape) (text rest line : List ℕ) : Type 0 where
  pub written : List ℕ
  pub done : Appends old now written
  pub whole : written ++ (text ++ rest) ≡ line
