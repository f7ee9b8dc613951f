-- What laws say of answers that there are.
use Rattle.std.specs.Prelude.{◌⊎◌, ℕ, Bool, List, Result, Ok, Err}
use Rattle.pr_base.specs.Laws.{AtMostOne}
use Rattle.pr_conf.specs.Shape.{Shape}
use Rattle.pr_compile.specs.declared.faults.CompileFault.{CompileFault}
use Rattle.pr_compile.specs.Configured.{IsCompiled}
use Rattle.pr_compile.specs.Refusals.{IsRefused}

-- there is one of the first, or one of the second
abbrev pub SomeOf : {A B : Type 0} → (A → Type 0) → (B → Type 0) → Type 0
SomeOf {A} {B} First Second = ((a : A) × First a) ⊎ ((b : B) × Second b)

-- there is one of these, and no second one
abbrev pub ExactlyOne : {A : Type 0} → (A → Type 0) → Type 0
ExactlyOne {A} Is = ((a : A) × Is a) × AtMostOne Is

-- the configuration of a text, or its refusal
abbrev pub IsOutcome : ℕ → ℕ → Bool → List ℕ → Result Shape CompileFault → Type 0
IsOutcome N P narrow text (Ok conf) = IsCompiled N P narrow text conf
IsOutcome N P narrow text (Err fault) = IsRefused N P narrow text fault
