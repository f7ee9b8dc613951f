-- Which options make a program that is refused fit.
use Rattle.std.specs.Prelude.{ℕ, ◌≡◌, Bool, true, false, not, ◌&&◌, nat_lt, List, [], ◌++◌, codes, if◌then◌else◌}
use Rattle.pr_base.specs.declared.caps.Cap.TheVariants.{InputBytes, Units}
use Rattle.pr_conf.specs.Shape.{Shape}
use Rattle.pr_compile.specs.Configured.{IsCompiled}
use Rattle.pr_compile.specs.Refusals.{IsRefused}
use Rattle.pr_compile.specs.declared.faults.CompileFault.{CompileFault}
use Rattle.pr_compile.specs.declared.faults.CompileFault.TheVariants.{NoFit, Limit}
use Rattle.pr_lens_why.specs.declared.helps.Help.{Help}

-- a text has a configuration
pub record HasConfiguration (N P : ℕ) (narrowed : Bool) (text : List ℕ) : Type 0 where
  pub conf : Shape
  pub compiled : IsCompiled N P narrowed text conf

-- it has none
pub record HasRefusal (N P : ℕ) (narrowed : Bool) (text : List ℕ) : Type 0 where
  pub fault : CompileFault
  pub refused : IsRefused N P narrowed text fault

-- ---- which options are asked about
-- fewer bits may make fit what fits in no stripe, or has too many units
abbrev pub may_narrow : CompileFault → Bool
may_narrow (NoFit unit) = true
may_narrow (Limit Units) = true
may_narrow fault = false

-- more columns may make fit what fits in no stripe, or has too many bytes of input
abbrev pub may_widen : CompileFault → Bool
may_widen (NoFit unit) = true
may_widen (Limit InputBytes) = true
may_widen fault = false

-- ---- what is told of them
-- where it is asked whether a text has this configuration, it is told whether it has; else nothing is told
abbrev pub IsFitting : (asked : Bool) → ℕ → ℕ → Bool → List ℕ → (fits : Bool) → Type 0
IsFitting true N P narrowed text true = HasConfiguration N P narrowed text
IsFitting true N P narrowed text false = HasRefusal N P narrowed text
IsFitting false N P narrowed text fits = fits ≡ false

-- narrowing is told of a text that is not narrowed yet, and the wide fabric where there are fewer columns
pub record IsHelp (N P : ℕ) (narrowed : Bool) (text : List ℕ) (fault : CompileFault) (help : Help) : Type 0 where
  pub narrow : IsFitting (may_narrow fault && not narrowed) N P true text help.narrow
  pub wide : IsFitting (may_widen fault && nat_lt N 32) 32 16 narrowed text help.wide

-- ---- its words
abbrev pub narrow_words : Bool → List ℕ
narrow_words fits = if fits then codes "With `--narrow` the program fits.\n" else []

abbrev pub wide_words : Bool → List ℕ
wide_words fits = if fits then codes "On `--fabric wide` the program fits.\n" else []

abbrev pub help_text : Help → List ℕ
help_text help = narrow_words help.narrow ++ wide_words help.wide
