-- What the outputs show that are added to a program.
use Rattle.std.specs.Prelude.{◌≡◌, ◌+◌, ◌≤◌, ℕ, List, ◌++◌, map, length, ⊤}
use Rattle.std.specs.List.{range_with_len}
use Rattle.pr_lang.specs.declared.trees.Program.{Program}
use Rattle.pr_scope.specs.Walk.{program_walk, turns_after}
use Rattle.pr_flat.specs.declared.equations.Operand.{Operand}
use Rattle.pr_flat.specs.Forms.{Stream}
use Rattle.pr_flat.specs.Shape.{shapes_of}
use Rattle.pr_flat.specs.Widths.{AreWidths, operand_width}
use Rattle.pr_expand_spec.specs.Programs.{equations_of}
use Rattle.pr_expand_correct.specs.Results.{AreSamples, output_rows}
use Rattle.pr_probe.specs.Instances.{instances_of}
use Rattle.pr_probe.specs.Operands.{operand_of}
use Rattle.pr_probe.specs.Probes.{numbers_at}
use Rattle.pr_lens_probe.specs.Given.{HasStreams}
use Rattle.pr_lens_probe.specs.declared.probing.Probed.{Probed}
use Rattle.pr_lens_probe.specs.declared.probing.ProbeFault.{ProbeFault}
use Rattle.pr_lens_probe.specs.declared.probing.ProbeFault.TheVariants.{Turns, Memory}

-- at each sample the numbers of the outputs, and then those of the instances
abbrev pub columns_of : ℕ → List Stream → List Stream → List (List ℕ)
columns_of count outputs streams = map (λ n. numbers_at n outputs ++ numbers_at n streams) (range_with_len 0 count)

abbrev pub width_of : Stream → ℕ
width_of s = s.form.width

-- On these samples the rows of operands have a column for each output and then for each instance. An operand is as wide as its stream,
-- in all widths of the program's equations
pub record HasColumns (program : Program) (operands : List Operand) (xs : List (List ℕ)) : Type 0 where
  pub outputs : List Stream
  pub streams : List Stream
  pub has : HasStreams program xs (instances_of program) outputs streams
  pub all : length outputs + length streams ≡ length operands
  pub wide : (widths : List ℕ) → AreWidths (equations_of program).equations widths → map (operand_width widths) operands ≡ map width_of (outputs ++ streams)
  pub are : (widths : List ℕ) → AreWidths (equations_of program).equations widths → AreSamples program xs → output_rows (equations_of program).equations operands widths xs ≡ columns_of (length xs) outputs streams

-- The items, the equations and the instances of a program. Its outputs are those of the program, and then the operands that the
-- instances stand for: they give these columns
pub record Shows (program : Program) (p : Probed) : Type 0 where
  pub items : p.scoped.program.items.items ≡ program.items.items
  pub instances : p.instances.items ≡ instances_of program
  pub equations : shapes_of p.flat.equations.items ≡ (equations_of program).equations
  pub outputs : p.flat.outputs.items ≡ (equations_of program).outputs ++ map (operand_of program) (instances_of program)
  pub columns : (xs : List (List ℕ)) → HasColumns program p.flat.outputs.items xs

-- no turn is left in which an instance is asked for
abbrev pub IsTooLong : Program → ProbeFault → Type 0
IsTooLong program Turns = 65536 ≤ turns_after (program_walk program)
IsTooLong program (Memory e) = ⊤
