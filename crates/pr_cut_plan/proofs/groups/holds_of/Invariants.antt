use Rattle.std.proofs.Common.{◌≡◌, ℕ, ◌++◌, List, drop}
use Rattle.pr_flat.specs.Shape.{shapes_of}
use Rattle.pr_cut_units.specs.Equations.{plan_of}
use Rattle.pr_cut_units.specs.Nets.{holds_from}
use Rattle.pr_cut_plan.specs.Plans.{IsPlanOf}
use Rattle.pr_cut_plan.proofs.groups.holds_of.Given as goal

abbrev pub invariant-loop-i : goal.invariant-loop-i
invariant-loop-i l = (widths : List ℕ) → IsPlanOf l.plan (shapes_of l.flat.equations.items) widths l.flat.outputs.items → l.all.items ++ holds_from (plan_of (shapes_of l.flat.equations.items) widths l.flat.outputs.items) l.i (drop l.i (shapes_of l.flat.equations.items)) (drop l.i l.plan.reached.items) ≡ holds_from (plan_of (shapes_of l.flat.equations.items) widths l.flat.outputs.items) 0 (shapes_of l.flat.equations.items) l.plan.reached.items
