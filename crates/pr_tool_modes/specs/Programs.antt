-- Programs that are read from files, and why their texts are refused.
use Rattle.std.specs.Prelude.{◌≡◌, ◌≤◌, ℕ, Bool, List, length}
use Rattle.pr_base.specs.declared.caps.Cap.{Cap}
use Rattle.pr_base.specs.Limits.{most_program_bytes}
use Rattle.pr_edge.specs.Files.{Told}
use Rattle.pr_lang.specs.declared.trees.Program.{Program}
use Rattle.pr_conf.specs.Shape.{Shape}
use Rattle.pr_scope.specs.Walk.{inputs_after, program_walk}
use Rattle.pr_compile_front.specs.declared.faults.FrontFault.{FrontFault}
use Rattle.pr_compile_front.specs.declared.faults.FrontFault.TheVariants as front
use Rattle.pr_compile_front.specs.declared.fronts.Front.{Front}
use Rattle.pr_compile_front.specs.Refusals.{HasWidths, IsRefusal}
use Rattle.pr_compile_front.specs.Passed.{IsPassed}
use Rattle.pr_compile.specs.declared.faults.CompileFault.{CompileFault}
use Rattle.pr_compile.specs.declared.faults.CompileFault.TheVariants as fault
use Rattle.pr_compile.specs.Configured.{IsCompiled, HasUnits}
use Rattle.pr_compile.specs.Refusals.{IsRefused}
use Rattle.pr_tool_answers.specs.declared.answers.Answer.{Answer}
use Rattle.pr_tool_modes.specs.Files.{IsText, IsFileRefusal}

-- the widths of a program's inputs
abbrev pub inputs_of : Program → List ℕ
inputs_of program = inputs_after (program_walk program)

-- ---- up to the widths of equations
abbrev pub front_answer : FrontFault → Answer
front_answer (front.Syntax token) = Answer.Syntax token
front_answer (front.Scope rule item) = Answer.Scope rule item
front_answer (front.NoWidth equation) = Answer.NoWidth equation
front_answer (front.Limit which) = Answer.Limit which
front_answer (front.Memory e) = Answer.Memory

-- a point up to the widths of its equations refuses the text so
pub record IsBadProgram (text : List ℕ) (answer : Answer) : Type 0 where
  pub fault : FrontFault
  pub refused : IsRefusal text fault
  pub answers : answer ≡ front_answer fault

-- why no program came of a file
abbrev pub IsNotLoaded : Told → List ℕ → ℕ → ℕ → Answer → Type 0
IsNotLoaded told name before now answer = IsFileRefusal most_program_bytes Cap.ProgramBytes IsBadProgram told name before now answer

-- the file has the text of this program, which no such point refuses; its equations have these widths
pub record HasProgram (told : Told) (name : List ℕ) (program : Program) (widths : List ℕ) : Type 0 where
  pub text : List ℕ
  pub file : IsText told name text
  pub short : length text ≤ most_program_bytes
  pub has : HasWidths text program widths

-- and this is what is handed on
pub record IsLoaded (told : Told) (name : List ℕ) (f : Front) : Type 0 where
  pub text : List ℕ
  pub file : IsText told name text
  pub short : length text ≤ most_program_bytes
  pub passed : IsPassed text f

-- ---- up to a configuration
abbrev pub compile_answer : CompileFault → Answer
compile_answer (fault.Syntax token) = Answer.Syntax token
compile_answer (fault.Scope rule item) = Answer.Scope rule item
compile_answer (fault.NoWidth equation) = Answer.NoWidth equation
compile_answer (fault.NoFit unit) = Answer.NoFit unit
compile_answer (fault.Limit which) = Answer.Limit which
compile_answer (fault.Memory e) = Answer.Memory

-- a point up to a configuration for N columns and P registers, narrowed or not, refuses the text so
pub record IsUncompiled (N P : ℕ) (narrowed : Bool) (text : List ℕ) (answer : Answer) : Type 0 where
  pub fault : CompileFault
  pub refused : IsRefused N P narrowed text fault
  pub answers : answer ≡ compile_answer fault

-- why no configuration came of the program in a file
abbrev pub IsNotCompiled : ℕ → ℕ → Bool → Told → List ℕ → ℕ → ℕ → Answer → Type 0
IsNotCompiled N P narrowed told name before now answer =
    IsFileRefusal most_program_bytes Cap.ProgramBytes (IsUncompiled N P narrowed) told name before now answer

-- the file has the text of a program that no point refuses, and this is its configuration, narrowed or not
pub record HasCompiled (told : Told) (name : List ℕ) (N P : ℕ) (narrowed : Bool) (conf : Shape) : Type 0 where
  pub text : List ℕ
  pub file : IsText told name text
  pub short : length text ≤ most_program_bytes
  pub is : IsCompiled N P narrowed text conf

-- the net of the program in a file has so many units
pub record IsCounted (told : Told) (name : List ℕ) (narrowed : Bool) (units : ℕ) : Type 0 where
  pub text : List ℕ
  pub file : IsText told name text
  pub has : HasUnits narrowed text units
