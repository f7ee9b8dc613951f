use Rattle.std.proofs.Common.{◌≡◌, drop}
use Rattle.pr_scope.specs.Walk.{have_widths}
use Rattle.pr_scope.proofs.items.params_have_widths.Given as goal

abbrev pub invariant-loop-param : goal.invariant-loop-param
invariant-loop-param l = have_widths (drop l.param-index l.params) ≡ have_widths l.params
