-- Where a configuration comes from: a configuration file, the file of a program that is compiled, or a checkpoint.
use Rattle.std.specs.Prelude.{◌≡◌, ◌-◌, ◌^◌, ℕ, List, Option}
use Rattle.pr_base.specs.declared.caps.Cap.{Cap}
use Rattle.pr_base.specs.declared.fabrics.Fabric.{Fabric}
use Rattle.pr_base.specs.Fabrics.{columns, registers}
use Rattle.pr_base.specs.Limits.{most_config_bytes, most_program_bytes}
use Rattle.pr_edge.specs.Files.{Told}
use Rattle.pr_conf.specs.Shape.{Shape}
use Rattle.pr_conf.specs.Configuration.{shape_of}
use Rattle.pr_tool_answers.specs.declared.answers.Answer.{Answer}
use Rattle.pr_tool_modes.specs.declared.targets.Target.{Target}
use Rattle.pr_tool_modes.specs.declared.loadables.Loadable.{Loadable}
use Rattle.pr_tool_modes.specs.Files.{IsRefusedFile}
use Rattle.pr_tool_modes.specs.Configurations.{HasConfiguration, IsBadConfiguration, IsNotConfigured}
use Rattle.pr_tool_modes.specs.Checkpoints.{HasMark, IsBadMark, IsNotMarked}
use Rattle.pr_tool_modes.specs.Programs.{HasCompiled, IsUncompiled, IsNotCompiled}

-- a configuration file; a program that is compiled; a checkpoint after so many samples
pub data ConfSource : Type 0 where
  File : (name : List ℕ) → ConfSource
  Text : (name : List ℕ) (target : Target) → ConfSource
  Mark : (name : List ℕ) (count : ℕ) → ConfSource

abbrev pub name_in : ConfSource → List ℕ
name_in (File name) = name
name_in (Text name target) = name
name_in (Mark name count) = name

-- how many bytes its file may have
abbrev pub most_bytes : ConfSource → ℕ
most_bytes (File name) = most_config_bytes
most_bytes (Text name target) = most_program_bytes
most_bytes (Mark name count) = most_config_bytes

-- how many samples came before
abbrev pub count_in : ConfSource → ℕ
count_in (File name) = 0
count_in (Text name target) = 0
count_in (Mark name count) = count

-- how many may follow
abbrev pub most_in : ConfSource → ℕ
most_in source = 2 ^ 40 - count_in source

-- ---- configurations of either fabric
abbrev pub columns_in : Loadable → ℕ
columns_in (Loadable.Base conf) = columns Fabric.Base
columns_in (Loadable.Wide conf) = columns Fabric.Wide

abbrev pub registers_in : Loadable → ℕ
registers_in (Loadable.Base conf) = registers Fabric.Base
registers_in (Loadable.Wide conf) = registers Fabric.Wide

abbrev pub shape_in : Loadable → Shape
shape_in (Loadable.Base conf) = shape_of conf
shape_in (Loadable.Wide conf) = shape_of conf

-- ---- what comes from a source
-- the configuration of the program in a file, on the columns and registers of the target's fabric
pub record IsOnFabric (told : Told) (name : List ℕ) (target : Target) (N P : ℕ) (conf : Shape) : Type 0 where
  pub columns_are : N ≡ columns target.fabric
  pub registers_are : P ≡ registers target.fabric
  pub has : HasCompiled told name N P target.narrowed conf

-- the source gives this configuration
abbrev pub Gives : Told → ConfSource → ℕ → ℕ → Shape → Type 0
Gives told (File name) N P conf = HasConfiguration told name N P conf
Gives told (Text name target) N P conf = IsOnFabric told name target N P conf
Gives told (Mark name count) N P conf = HasMark told name N P count conf

-- the source gives a configuration
pub record IsGood (told : Told) (source : ConfSource) : Type 0 where
  pub N : ℕ
  pub P : ℕ
  pub conf : Shape
  pub gives : Gives told source N P conf

-- why a source gives none
abbrev pub IsSourceRefusal : Told → ConfSource → ℕ → ℕ → Answer → Type 0
IsSourceRefusal told (File name) before now answer = IsNotConfigured told name before now answer
IsSourceRefusal told (Text name target) before now answer = IsNotCompiled (columns target.fabric) (registers target.fabric) target.narrowed told name before now answer
IsSourceRefusal told (Mark name count) before now answer = IsNotMarked told name before now answer

-- by the files alone
abbrev pub IsRefusedSource : (List ℕ → Option (List ℕ)) → ConfSource → Answer → Type 0
IsRefusedSource files (File name) answer = IsRefusedFile most_config_bytes Cap.ConfigBytes IsBadConfiguration files name answer
IsRefusedSource files (Text name target) answer = IsRefusedFile most_program_bytes Cap.ProgramBytes (IsUncompiled (columns target.fabric) (registers target.fabric) target.narrowed) files name answer
IsRefusedSource files (Mark name count) answer = IsRefusedFile most_config_bytes Cap.ConfigBytes IsBadMark files name answer
