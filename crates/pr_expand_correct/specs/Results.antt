-- The lists of outputs and their rows, as their equations give them.
use Rattle.std.specs.Prelude.{◌≡◌, ℕ, List, [], Some, map}
use Rattle.std.specs.List.{AllZip, slice_get}
use Rattle.pr_base.specs.Rows.{IsRow}
use Rattle.pr_lang.specs.declared.trees.Program.{Program}
use Rattle.pr_flat.specs.declared.equations.Operand.{Operand}
use Rattle.pr_flat.specs.Forms.{Stream}
use Rattle.pr_flat.specs.Shape.{EquationShape}
use Rattle.pr_flat.specs.Values.{operand_number, output_list, rows_of}
use Rattle.pr_lang_meaning.specs.Programs.{streams_of}
use Rattle.pr_expand_spec.specs.Programs.{equations_of}
use Rattle.pr_scope_facts.specs.Items.{widths_of_inputs}

-- each sample has a number for each input, with the bits of its width
abbrev pub AreSamples : Program → List (List ℕ) → Type 0
AreSamples program xs = (n : ℕ) (sample : List ℕ) → slice_get xs n ≡ Some sample → IsRow (widths_of_inputs program.items.items) sample

-- a stream's numbers are the list of an output
abbrev pub IsListOf : List EquationShape → List ℕ → List (List ℕ) → Operand → Stream → Type 0
IsListOf equations widths xs output s = s.numbers ≡ output_list equations widths xs output

-- for these samples a program has streams, and each output's list is that of its stream
pub record HasLists (program : Program) (widths : List ℕ) (xs : List (List ℕ)) : Type 0 where
  pub streams : List Stream
  pub are : streams_of program xs ≡ Some streams
  pub lists : AllZip (IsListOf (equations_of program).equations widths xs) (equations_of program).outputs streams

-- row by row, the numbers of outputs
abbrev pub output_rows : List EquationShape → List Operand → List ℕ → List (List ℕ) → List (List ℕ)
output_rows equations outputs widths xs = map (λ row. map (operand_number equations [] row) outputs) (rows_of equations widths xs)
