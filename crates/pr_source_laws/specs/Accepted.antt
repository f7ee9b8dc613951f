-- What is evaluated of an accepted program.
use Rattle.std.specs.Prelude.{◌≡◌, ℕ, List, None}
use Rattle.std.specs.List.{All}
use Rattle.pr_base.specs.Rows.{IsRow}
use Rattle.pr_lang.specs.declared.trees.Program.{Program}
use Rattle.pr_scope.specs.Walk.{offence}
use Rattle.pr_flat.specs.declared.flat.Flat.{Flat}
use Rattle.pr_flat.specs.Shape.{shapes_of}
use Rattle.pr_flat.specs.Widths.{AreWidths}
use Rattle.pr_flat.specs.Values.{input_widths}
use Rattle.pr_expand_spec.specs.Programs.{equations_of}

-- the equations of a program without an offence, their widths, and samples for its inputs
pub record IsAccepted (program : Program) (flat : Flat) (widths : List ℕ) (samples : List (List ℕ)) : Type 0 where
  pub lawful : offence program ≡ None
  pub equations : shapes_of flat.equations.items ≡ (equations_of program).equations
  pub outputs : flat.outputs.items ≡ (equations_of program).outputs
  pub wide : AreWidths (shapes_of flat.equations.items) widths
  pub rows : All (IsRow (input_widths (shapes_of flat.equations.items))) samples
