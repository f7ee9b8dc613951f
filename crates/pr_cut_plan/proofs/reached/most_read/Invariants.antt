use Rattle.std.proofs.Common.{◌≡◌, max, map, drop}
use Rattle.std.specs.Prelude.{fold}
use Rattle.pr_cut_units.specs.Reached.{past_read, greatest}
use Rattle.pr_cut_plan.proofs.reached.most_read.Given as goal

abbrev pub invariant-loop-operand : goal.invariant-loop-operand
invariant-loop-operand l = fold max l.most (map (past_read l.rec) (drop l.operand-index l.operands)) ≡ greatest (map (past_read l.rec) l.operands)
