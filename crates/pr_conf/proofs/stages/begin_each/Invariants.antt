use Rattle.std.proofs.Common.{◌≡◌, take}
use Rattle.pr_conf.specs.After.{begun}
use Rattle.pr_conf.proofs.stages.begin_each.Given as goal

-- those so far begin with their bytes
abbrev pub invariant-loop-col : goal.invariant-loop-col
invariant-loop-col l = l.pes ≡ begun l.fn.pes (take l.col l.state)
