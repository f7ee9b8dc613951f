use Rattle.std.proofs.Common.{◌≡◌, ◌++◌, drop}
use Rattle.pr_cut_units.specs.Equations.{arguments}
use Rattle.pr_cut.specs.Operators.{arguments_of}
use Rattle.pr_cut.specs.Sources.{plan_in}
use Rattle.pr_cut.proofs.operands.arguments.Given as goal

abbrev pub invariant-loop-i : goal.invariant-loop-i
invariant-loop-i l = arguments_of l.all.items ++ arguments (plan_in l.source) l.values (drop l.i l.equation.args.items) (drop l.i l.equation.kinds.items) ≡ arguments (plan_in l.source) l.values l.equation.args.items l.equation.kinds.items
