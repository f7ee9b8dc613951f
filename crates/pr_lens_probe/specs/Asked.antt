-- Outputs behind the items of a program, which ask for something of its instances.
use Rattle.std.specs.Prelude.{◌≡◌, ◌+◌, ◌*◌, ◌<◌, ◌≤◌, ℕ, true, List, ◌++◌, length, Option, Some, None}
use Rattle.std.specs.List.{AllZip}
use Rattle.pr_lang.specs.declared.trees.Expr.{Expr}
use Rattle.pr_lang.specs.declared.trees.Item.{Item}
use Rattle.pr_lang.specs.declared.trees.Item.TheVariants.{Output}
use Rattle.pr_lang.specs.declared.trees.Program.{Program}
use Rattle.pr_scope_names.specs.declared.streams.Instance.{Instance}
use Rattle.pr_scope.specs.Walk.{offence, program_walk, turns_after}
use Rattle.pr_flat.specs.declared.flat.Flat.{Flat}
use Rattle.pr_flat.specs.Shape.{shapes_of}
use Rattle.pr_lang_meaning.specs.Programs.{has_widths}
use Rattle.pr_expand_spec.specs.Programs.{equations_of}
use Rattle.pr_probe.specs.Instances.{instances_of}
use Rattle.pr_probe.specs.Probes.{AreAmong, AreNamed, HaveNames, Probe, reference}
use Rattle.pr_lens_probe.specs.Fresh.{is_within, probes_from}
use Rattle.pr_lens_probe.specs.Kinds.{TellsKind}
use Rattle.pr_lens_probe.specs.declared.asking.Want.{Want}

-- an expression over an instance that gives what is asked for
abbrev pub Gives : Want → List ℕ → Option ℕ → Expr → Type 0
Gives Want.Stream name index e = e ≡ reference name index
Gives Want.Kind name index e = TellsKind name index e

-- how many equations it makes
abbrev pub cost_of : Want → ℕ
cost_of Want.Stream = 0
cost_of Want.Kind = 2

-- an output of such an expression, under a probe's name
pub record IsAsking (want : Want) (p : Probe) (i : Item) : Type 0 where
  pub value : Expr
  pub is : i ≡ Output p.fresh None value
  pub gives : Gives want p.name p.index value

-- these items, and behind them such an output for each probe
pub record AreAsked (want : Want) (items : List Item) (probes : List Probe) (asked : List Item) : Type 0 where
  pub outputs : List Item
  pub each : AllZip (IsAsking want) probes outputs
  pub are : asked ≡ items ++ outputs

-- these instances of a program can be asked for: turns are left for them, and no name of the program has more bytes than so many
pub record CanAsk (program : Program) (most : ℕ) (some : List Instance) : Type 0 where
  pub lawful : offence program ≡ None
  pub widths : has_widths program ≡ true
  pub turns : turns_after (program_walk program) + length some ≤ 65536
  pub among : AreAmong some (instances_of program)
  pub named : AreNamed (is_within most) (instances_of program)
  pub statics : HaveNames (is_within most) program.items.items

-- all instances of a program can be asked for, so many at a time, and its equations are not too many
pub record CanAskAll (program : Program) (most : ℕ) (instances : List Instance) (size : ℕ) : Type 0 where
  pub lawful : offence program ≡ None
  pub widths : has_widths program ≡ true
  pub few : length (equations_of program).equations ≤ 16384
  pub some : 0 < size
  pub turns : turns_after (program_walk program) + size ≤ 65536
  pub all : instances ≡ instances_of program
  pub named : AreNamed (is_within most) instances
  pub statics : HaveNames (is_within most) program.items.items

-- How many instances can be asked for their kinds at a time, where so many turns and equations are made. It is none where no two
-- equations are left
abbrev pub IsPart : ℕ → ℕ → Option ℕ → Type 0
IsPart turns equations None = 16384 < equations + 2
IsPart turns equations (Some size) = (0 < size) × (turns + size ≤ 65536) × (equations + 2 * size ≤ 16384)

-- the equations of a program with an output more for each of these instances
pub record IsAnswered (want : Want) (program : Program) (most : ℕ) (some : List Instance) (flat : Flat) : Type 0 where
  pub asked : Program
  pub are : AreAsked want program.items.items (probes_from most 0 some) asked.items.items
  pub equations : shapes_of flat.equations.items ≡ (equations_of asked).equations
  pub outputs : flat.outputs.items ≡ (equations_of asked).outputs
