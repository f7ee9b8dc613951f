use Rattle.std.proofs.Common.{map}
use Rattle.pr_expand.specs.Descents.{IsWay}
use Rattle.pr_expand.proofs.Weights.{weight}
use Rattle.pr_expand.proofs.descents.descend.Given as goal

abbrev pub invariant-loop-first : goal.invariant-loop-first
invariant-loop-first l = IsWay l.expr (map (λ e. e.now) l.around.items) l.innermost

abbrev pub decreases-loop-first : goal.decreases-loop-first
decreases-loop-first l = weight l.innermost
