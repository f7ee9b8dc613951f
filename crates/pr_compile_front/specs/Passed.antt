-- What is handed on of a text that no point refuses.
use Rattle.std.specs.Prelude.{◌≡◌, ℕ, List}
use Rattle.pr_lang.specs.declared.trees.Program.{Program}
use Rattle.pr_flat.specs.declared.flat.Flat.{Flat}
use Rattle.pr_flat.specs.Shape.{shapes_of}
use Rattle.pr_expand_spec.specs.Programs.{equations_of}
use Rattle.pr_compile_front.specs.declared.fronts.Front.{Front}
use Rattle.pr_compile_front.specs.Refusals.{HasWidths}

-- these are the equations of a program, and its outputs
pub record HasEquations (program : Program) (flat : Flat) : Type 0 where
  pub equations : shapes_of flat.equations.items ≡ (equations_of program).equations
  pub outputs : flat.outputs.items ≡ (equations_of program).outputs

-- the program of a text, its equations and their widths
pub record IsPassed (text : List ℕ) (f : Front) : Type 0 where
  pub widths : HasWidths text f.scoped.program f.widths
  pub flat : HasEquations f.scoped.program f.flat
