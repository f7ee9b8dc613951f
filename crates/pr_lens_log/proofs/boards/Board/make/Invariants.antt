use Rattle.std.proofs.Common.{◌≡◌, None, replicate}
use Rattle.pr_lens_log.proofs.boards.Board.make.Given as goal

abbrev pub invariant-loop : goal.invariant-loop
invariant-loop l = l.stages.items ≡ replicate l.counter None
