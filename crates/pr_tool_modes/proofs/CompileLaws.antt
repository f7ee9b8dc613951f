-- The laws of compilation that are used here.
use Rattle.std.proofs.Common.{◌≡◌, ◌≤◌, ℕ, Bool, List}
use Rattle.pr_lang.specs.declared.trees.Program.{Program}
use Rattle.pr_conf.specs.Shape.{Shape}
use Rattle.pr_compile_front.specs.Refusals.{HasWidths}
use Rattle.pr_compile.specs.declared.faults.CompileFault.{CompileFault}
use Rattle.pr_compile.specs.Configured.{IsCompiled}
use Rattle.pr_compile.specs.Meant.{IsMeant}
use Rattle.pr_compile.specs.Refusals.{IsRefused}
use Rattle.pr_compile.proofs.Programs.{text_meant}
use Rattle.pr_compile.proofs.Shown.{configured_lawful}
use Rattle.pr_conf.specs.Rules.{IsLawful}
use Rattle.pr_compile.proofs.OneAnswer.{one_answer, no_answer}
use Rattle.pr_compile.proofs.OneAnswer.{one_compiled as one_configuration}

pub one_refusal : (N P : ℕ) (narrowed : Bool) (text : List ℕ) (e f : CompileFault) → IsRefused N P narrowed text e → IsRefused N P narrowed text f → e ≡ f
one_refusal = one_answer

pub never_compiled : (N P : ℕ) (narrowed : Bool) (text : List ℕ) (e : CompileFault) (conf : Shape) → IsRefused N P narrowed text e → IsCompiled N P narrowed text conf → ⊥
never_compiled = no_answer

pub one_compiled : (N P : ℕ) (narrowed : Bool) (text : List ℕ) (c d : Shape) → IsCompiled N P narrowed text c → IsCompiled N P narrowed text d → c ≡ d
one_compiled = one_configuration

pub is_meant : (N P : ℕ) (narrowed : Bool) (text : List ℕ) (program : Program) (widths : List ℕ) (conf : Shape) → 2 ≤ P → HasWidths text program widths → IsCompiled N P narrowed text conf → IsMeant N P program conf
is_meant = text_meant

pub is_lawful : (N P : ℕ) (narrowed : Bool) (text : List ℕ) (conf : Shape) → 1 ≤ N → N ≤ 64 → 2 ≤ P → P ≤ 16 → IsCompiled N P narrowed text conf → IsLawful N P conf
is_lawful N P narrowed text conf columns most_columns registers most_registers c =
    configured_lawful N P _ c.configured.news _ conf c.configured.holds columns most_columns registers most_registers
