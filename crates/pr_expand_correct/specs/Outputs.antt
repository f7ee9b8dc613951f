-- The streams of outputs, beside their operands.
use Rattle.std.specs.Prelude.{◌≡◌, ℕ, List, Some}
use Rattle.std.specs.List.{AllZip}
use Rattle.pr_lang.specs.declared.trees.Program.{Program}
use Rattle.pr_flat.specs.declared.equations.Operand.{Operand}
use Rattle.pr_flat.specs.Forms.{Stream}
use Rattle.pr_flat.specs.Widths.{AreWidths, operand_width}
use Rattle.pr_lang_meaning.specs.Programs.{streams_of}
use Rattle.pr_expand_spec.specs.Programs.{equations_of}

-- an operand is as wide as a stream
abbrev pub IsAsWide : List ℕ → Operand → Stream → Type 0
IsAsWide widths output s = s.form.width ≡ operand_width widths output

-- the equations of a program have widths
pub record HaveWidths (program : Program) : Type 0 where
  pub widths : List ℕ
  pub are : AreWidths (equations_of program).equations widths

-- for these samples a program has streams, and each output's operand is as wide as its stream
pub record HasStreams (program : Program) (widths : List ℕ) (xs : List (List ℕ)) : Type 0 where
  pub streams : List Stream
  pub are : streams_of program xs ≡ Some streams
  pub wide : AllZip (IsAsWide widths) (equations_of program).outputs streams
