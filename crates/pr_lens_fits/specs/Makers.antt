-- Which equation makes a unit.
use Rattle.std.specs.Prelude.{ℕ, ◌≡◌, ◌<◌, ◌≤◌, ◌⊎◌, Bool, true, false, List, length, slice_index_or}
use Rattle.pr_lang.specs.declared.tokens.Token.{Token}
use Rattle.pr_lang.specs.declared.trees.Program.{Program}
use Rattle.pr_cut_units.specs.Equations.{UnitPlan, plan_of, first_unit}
use Rattle.pr_expand_spec.specs.Programs.{equations_of}
use Rattle.pr_compile_front.specs.Refusals.{HasWidths}
use Rattle.pr_compile.specs.Configured.{OfReadyBy}
use Rattle.pr_lens_source.specs.declared.sources.Span.{Span}
use Rattle.pr_lens_find.specs.Made.{IsManyWith}

-- an output can be reached from this equation, and its first unit is not behind this one
pub record HasBegun (plan : UnitPlan) (unit number : ℕ) : Type 0 where
  pub reached : slice_index_or plan.reached number false ≡ true
  pub first : first_unit plan number ≤ unit

-- the last such equation, and 0 where there is none
pub record IsMaker (plan : UnitPlan) (unit number : ℕ) : Type 0 where
  pub is : (number ≡ 0) ⊎ HasBegun plan unit number
  pub last : (k : ℕ) → number < k → k < length plan.equations → HasBegun plan unit k → ⊥

-- the item of that equation
pub record HasMaker (narrowed : Bool) (text : List ℕ) (tokens : List Token) (spans : List Span) (unit item : ℕ) : Type 0 where
  pub program : Program
  pub given : List ℕ
  pub has : HasWidths text program given
  pub equation : ℕ
  pub are : OfReadyBy narrowed program given (λ ready news. IsMaker (plan_of ready news (equations_of program).outputs) unit equation)
  pub many : IsManyWith text tokens spans equation item
