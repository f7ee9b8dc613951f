-- What an evaluator stands for: the samples that it was given.
use Rattle.std.specs.Prelude.{◌≡◌, ◌≤◌, ℕ, List, length, reverse, take}
use Rattle.std.specs.List.{All}
use Rattle.pr_base.specs.Rows.{IsRow}
use Rattle.pr_flat.specs.Shape.{EquationShape}
use Rattle.pr_flat.specs.Values.{input_widths, rows_of}
use Rattle.pr_source.specs.declared.evaluator.Evaluator.{Evaluator}
use Rattle.pr_source.specs.Keeping.{kept, slots, AreNear, HaveSize}
use Rattle.pr_source.specs.Reading.{IsPast}

-- after these samples the rows that are kept are the latest of the equations' rows. There is room for as many as any equation looks back on, and for no more
pub record Stands (equations : List EquationShape) (widths : List ℕ) (samples : List (List ℕ)) (v : Evaluator) : Type 0 where
  pub lawful : All (IsRow (input_widths equations)) samples
  pub latest : kept v.recent ≡ take (slots v.recent) (reverse (rows_of equations widths samples))
  pub whole : IsPast equations widths (kept v.recent)
  pub some : 1 ≤ slots v.recent
  pub near : AreNear (slots v.recent) equations
  pub least : (n : ℕ) → 1 ≤ n → AreNear n equations → slots v.recent ≤ n
  pub size : HaveSize (length equations) v.recent
  pub room : length v.row ≡ length equations

-- it stands for some samples
pub record HasStood (equations : List EquationShape) (widths : List ℕ) (v : Evaluator) : Type 0 where
  pub samples : List (List ℕ)
  pub stands : Stands equations widths samples v
