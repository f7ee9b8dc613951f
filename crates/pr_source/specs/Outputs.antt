-- What outputs give of rows.
use Rattle.std.specs.Prelude.{[], ℕ, List, map, reverse}
use Rattle.pr_flat.specs.declared.equations.Operand.{Operand}
use Rattle.pr_flat.specs.Shape.{EquationShape}
use Rattle.pr_flat.specs.Values.{operand_number, row_of, rows_of}

-- the numbers of the outputs in a row
abbrev pub given : List EquationShape → List Operand → List ℕ → List ℕ
given equations outputs row = map (operand_number equations [] row) outputs

-- their numbers at a sample after these samples
abbrev pub given_next : List EquationShape → List Operand → List ℕ → List (List ℕ) → List ℕ → List ℕ
given_next equations outputs widths samples sample = given equations outputs (row_of equations widths (reverse (rows_of equations widths samples)) sample)

-- and at each sample
abbrev pub given_all : List EquationShape → List Operand → List ℕ → List (List ℕ) → List (List ℕ)
given_all equations outputs widths samples = map (given equations outputs) (rows_of equations widths samples)
