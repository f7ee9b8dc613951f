-- The streams of a program's instances: the operands that give them, and their kinds.
use Rattle.std.specs.Prelude.{◌≡◌, ◌≢◌, ℕ, Bool, true, false, List, [], map, length, Option, Some, option_map}
use Rattle.std.specs.List.{AllZip, list_all, list_any}
use Rattle.pr_lang.specs.declared.trees.Program.{Program}
use Rattle.pr_scope_names.specs.declared.streams.Instance.{Instance}
use Rattle.pr_flat.specs.declared.equations.Operand.{Operand}
use Rattle.pr_flat.specs.Facts.{DependsOnPast, is_lawful_output, reads_equation}
use Rattle.pr_flat.specs.Forms.{Stream}
use Rattle.pr_flat.specs.Shape.{EquationShape}
use Rattle.pr_flat.specs.Widths.{AreWidths}
use Rattle.pr_lang_meaning.specs.Streams.{Bound, Streams}
use Rattle.pr_lang_meaning.specs.Programs as meant
use Rattle.pr_expand_spec.specs.Programs.{equations_of}
use Rattle.pr_expand_correct.specs.Outputs.{IsAsWide}
use Rattle.pr_expand_correct.specs.Results.{AreSamples, IsListOf}
use Rattle.pr_probe.specs.Operands.{operand_of}
use Rattle.pr_lens_probe.specs.declared.kinds.Detail.{Detail}
use Rattle.pr_lens_probe.specs.Kinds.{kinds_of}

-- the stream that an instance stands for
abbrev pub stream_of : Streams → Instance → Option Stream
stream_of env i = option_map (λ (b : Bound). b.stream) (env i.name i.index)

-- over these samples the program comes to an end, its outputs have these streams, and some instances stand for these
pub record HasStreams (program : Program) (xs : List (List ℕ)) (instances : List Instance) (outputs streams : List Stream) : Type 0 where
  pub world : meant.World
  pub is : meant.items_change xs 0 program.items.items meant.start ≡ Some world
  pub outputs_are : outputs ≡ world.outputs
  pub each : map (stream_of world.streams) instances ≡ map Some streams

-- operands of a program's equations are as wide as streams and have their numbers, in all widths of the equations
pub record Match (program : Program) (xs : List (List ℕ)) (operands : List Operand) (streams : List Stream) : Type 0 where
  pub wide : (widths : List ℕ) → AreWidths (equations_of program).equations widths → AllZip (IsAsWide widths) operands streams
  pub lists : (widths : List ℕ) → AreWidths (equations_of program).equations widths → AreSamples program xs → AllZip (IsListOf (equations_of program).equations widths xs) operands streams

-- they match the streams of these instances
pub record GiveStreams (program : Program) (xs : List (List ℕ)) (instances : List Instance) (operands : List Operand) : Type 0 where
  pub outputs : List Stream
  pub streams : List Stream
  pub has : HasStreams program xs instances outputs streams
  pub match : Match program xs operands streams

-- operands that the outputs of flat equations may give
pub record AreLawful (equations : List EquationShape) (operands : List Operand) : Type 0 where
  pub given : list_all (is_lawful_output (length equations)) operands ≡ true
  pub outside : (rec i : ℕ) → DependsOnPast equations rec i → i ≢ rec → list_any (reads_equation i) operands ≡ false

-- The operands that these instances stand for in the program's equations. They are lawful, and give the instances' streams,
-- whatever the samples
pub record AreGiven (program : Program) (instances : List Instance) (operands : List Operand) : Type 0 where
  pub are : operands ≡ map (operand_of program) instances
  pub lawful : AreLawful (equations_of program).equations operands
  pub streams : (xs : List (List ℕ)) → GiveStreams program xs instances operands

-- these are the kinds of these instances, whatever the samples
abbrev pub HaveKinds : Program → List Instance → List Bool → Type 0
HaveKinds program instances kinds = (xs : List (List ℕ)) (outputs streams : List Stream) → HasStreams program xs instances outputs streams → kinds ≡ kinds_of program streams

-- their kinds where these are asked for, else none
abbrev pub AreKinds : Detail → Program → List Instance → List Bool → Type 0
AreKinds Detail.Kinds program instances kinds = HaveKinds program instances kinds
AreKinds Detail.Streams program instances kinds = kinds ≡ []
