use Rattle.std.proofs.Common.{◌≡◌, None, replicate}
use Rattle.pr_place.proofs.course.no_stages.Given as goal

abbrev pub invariant-loop-group : goal.invariant-loop-group
invariant-loop-group l = l.stages.items ≡ replicate l.group None
