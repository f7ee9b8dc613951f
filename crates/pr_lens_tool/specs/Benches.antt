-- The bench for the module of a program on the samples of a second file.
use Rattle.std.specs.Prelude.{◌≡◌, ◌≤◌, ℕ, Bool, List, length}
use Rattle.pr_base.specs.Fabrics.{columns, registers}
use Rattle.pr_base.specs.Limits.{most_program_bytes}
use Rattle.pr_edge.specs.Files.{Told}
use Rattle.pr_lang.specs.declared.trees.Program.{Program}
use Rattle.pr_conf.specs.Shape.{Shape}
use Rattle.pr_conf.specs.Through.{output_widths}
use Rattle.pr_tool_words.specs.Lawful.{Text}
use Rattle.pr_tool_modes.specs.Files.{IsText}
use Rattle.pr_lens_rtl_names.specs.declared.names.Side.{Side}
use Rattle.pr_lens_rtl_names.specs.Names.{port_name}
use Rattle.pr_lens_rtl_text.specs.Modules.{ports_by}
use Rattle.pr_lens_bench.specs.declared.texts.Design.{Design}
use Rattle.pr_lens_bench.specs.declared.trials.NoBench.{NoBench}
use Rattle.pr_lens_bench.specs.declared.trials.NoBench.TheVariants.{Long, Ended}
use Rattle.pr_lens_bench.specs.Benches.{IsBench, IsUnbenched}
use Rattle.pr_lens_tool.specs.declared.outcomes.Outcome.{Outcome}
use Rattle.pr_lens_tool.specs.declared.outcomes.Outcome.TheVariants.{Plain, Refused, Streamed, LongBench}
use Rattle.pr_lens_tool.specs.Modules.{IsCompilation}
use Rattle.pr_lens_tool.specs.Asked.{AskedTarget}
use Rattle.pr_lens_tool.specs.Programs.{IsUntold}

-- the module that `rtl` writes of a program and its configuration: its name and its ports
pub record IsDesign (name : List ℕ) (seed : ℕ) (program : Program) (conf : Shape) (design : Design) : Type 0 where
  pub name_is : design.name.items ≡ port_name name
  pub inputs : design.inputs.items ≡ ports_by Side.Input program conf.inputs
  pub outputs : design.outputs.items ≡ ports_by Side.Output program (output_widths conf)
  pub seed_is : design.seed ≡ seed

-- no point refuses a text, and this is the design for its module
pub record IsPlanned (N P : ℕ) (narrowed : Bool) (name : List ℕ) (seed : ℕ) (text : List ℕ) (program : Program) (design : Design) : Type 0 where
  pub conf : Shape
  pub compiled : IsCompilation N P narrowed text program conf
  pub is : IsDesign name seed program conf design

-- the program of a file is planned so, and this is so of it
pub record HasBenchOf (told : Told) (target : AskedTarget) (name : Text) (seed : ℕ) (Holds : Program → Design → Type 0) : Type 0 where
  pub text : List ℕ
  pub file : IsText told target.file text
  pub short : length text ≤ most_program_bytes
  pub program : Program
  pub design : Design
  pub planned : IsPlanned (columns target.fabric) (registers target.fabric) target.narrowed name seed text program design
  pub holds : Holds program design

-- a bench is written
abbrev pub IsBenchOf : Told → AskedTarget → (samples name : Text) → ℕ → List ℕ → Type 0
IsBenchOf told target samples name seed written = HasBenchOf told target name seed (λ program design. IsBench told samples program design written)

-- why none is: the program is refused, the samples end otherwise, or the bench has too many bytes
abbrev pub IsNoBenchOf : Told → AskedTarget → (samples name : Text) → ℕ → ℕ → ℕ → Outcome → Type 0
IsNoBenchOf told target samples name seed before now (Plain answer) = IsUntold told target before now (Plain answer)
IsNoBenchOf told target samples name seed before now (Refused answer help) = IsUntold told target before now (Refused answer help)
IsNoBenchOf told target samples name seed before now (Streamed answer) = HasBenchOf told target name seed (λ program design. IsUnbenched told samples program design before now (Ended answer))
IsNoBenchOf told target samples name seed before now LongBench = HasBenchOf told target name seed (λ program design. IsUnbenched told samples program design before now Long)
IsNoBenchOf told target samples name seed before now outcome = ⊥

-- the samples or the length are why
abbrev pub IsUntried : (NoBench → Type 0) → Outcome → Type 0
IsUntried Why (Streamed answer) = Why (Ended answer)
IsUntried Why LongBench = Why Long
IsUntried Why outcome = ⊥
