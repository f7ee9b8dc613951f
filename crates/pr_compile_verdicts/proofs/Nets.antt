-- Flat equations with their widths have a configuration, or their net is refused.
use Rattle.std.proofs.Common.{◌≡◌, ℕ, Option, Some, None, List, refl, inl, inr}
use Rattle.pr_base.specs.declared.caps.Cap.{Cap}
use Rattle.pr_flat.specs.declared.equations.Operand.{Operand}
use Rattle.pr_flat.specs.Shape.{EquationShape}
use Rattle.pr_flat.specs.Facts.{IsFlat}
use Rattle.pr_flat.specs.Widths.{AreWidths}
use Rattle.pr_cut_units.specs.Nets.{net_of, limit_passed}
use Rattle.pr_route.specs.Conf.{conf_of}
use Rattle.pr_compile.specs.declared.faults.CompileFault.TheVariants.{NoFit, Limit}
use Rattle.pr_compile.specs.Configured.{IsConfigured}
use Rattle.pr_compile.specs.Refusals.{IsNetRefusal}
use Rattle.pr_compile_verdicts.specs.Verdicts.{SomeOf}
use Rattle.pr_compile_verdicts.proofs.Placements.{some_placement}

pub some_configuration : (N P : ℕ) (equations : List EquationShape) (widths : List ℕ) (outputs : List Operand) → IsFlat equations outputs → AreWidths equations widths → SomeOf (IsConfigured N P equations widths outputs) (IsNetRefusal N P (net_of equations widths outputs))
some_configuration N P equations widths outputs flat are = by_limit (limit_passed N (net_of equations widths outputs)) refl where
  by_limit : (o : Option Cap) → limit_passed N (net_of equations widths outputs) ≡ o → SomeOf (IsConfigured N P equations widths outputs) (IsNetRefusal N P (net_of equations widths outputs))
  by_limit (Some which) is = inr (Limit which, is)
  by_limit None within = elim (some_placement N P (net_of equations widths outputs)) [
    | inl placed ↦ inl (
      conf_of N (net_of equations widths outputs) placed.0,
      record {
        flat = flat;
        widths_are = are;
        within = within;
        placement = placed.0;
        greedy = placed.1;
        is = refl;
      },
    )
    | inr stuck ↦ inr (NoFit stuck.0, record { within = within; no_fit = stuck.1 })
  ]
