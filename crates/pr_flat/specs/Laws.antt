-- What laws say of flat equations.
use Rattle.std.specs.Prelude.{◌≡◌, ℕ, Some, List, take, reverse, slice_index}
use Rattle.std.specs.List.{slice_get}
use Rattle.pr_base.specs.Rows.{IsRow}
use Rattle.pr_flat.specs.declared.equations.Operand.{Operand}
use Rattle.pr_flat.specs.Shape.{EquationShape, EachEquation}
use Rattle.pr_flat.specs.Facts.{IsFlat}
use Rattle.pr_flat.specs.Widths.{AreWidths}
use Rattle.pr_flat.specs.Values.{HaveWidths, input_widths, row_of, rows_of, seen_in, number_in}

-- a fact for all flat equations with their outputs and widths
abbrev pub EachFlat : (List EquationShape → List Operand → List ℕ → Type 0) → Type 0
EachFlat P = (equations : List EquationShape) (outputs : List Operand) (widths : List ℕ) → IsFlat equations outputs → AreWidths equations widths → P equations outputs widths

-- samples with a number for each input
abbrev pub AreSamples : List EquationShape → List (List ℕ) → Type 0
AreSamples equations samples = (n : ℕ) (sample : List ℕ) → slice_get samples n ≡ Some sample → IsRow (input_widths equations) sample

-- each number of the row is what its equation makes of what it sees
abbrev pub HasNumbers : List EquationShape → List ℕ → List (List ℕ) → List ℕ → Type 0
HasNumbers equations widths before sample = EachEquation equations (λ i e. slice_index (row_of equations widths before sample) i ≡ number_in (seen_in equations widths before sample) i e.op e.args e.kinds)

-- the row of each sample is made from it and from the rows before it, of which the latest stands first
abbrev pub HaveRows : List EquationShape → List ℕ → List (List ℕ) → Type 0
HaveRows equations widths samples = (n : ℕ) (sample : List ℕ) → slice_get samples n ≡ Some sample → slice_get (rows_of equations widths samples) n ≡ Some (row_of equations widths (reverse (take n (rows_of equations widths samples))) sample)

-- every number of these rows has the bits of its equation's width
abbrev pub AllHaveWidths : List ℕ → List (List ℕ) → Type 0
AllHaveWidths widths rows = (n : ℕ) (row : List ℕ) → slice_get rows n ≡ Some row → HaveWidths widths row
