use Rattle.std.proofs.Common.{◌≡◌, ◌+◌, ◌*◌, drop, map}
use Rattle.pr_probe.proofs.ListWeights.{stmt_weight, stmts_weight}
use Rattle.pr_lens_origins.specs.Numbers.{behind, naming_of}
use Rattle.pr_lens_origins.proofs.walks.+size.Given as goal

abbrev pub invariant-sizes_of-loop-stmt : goal.invariant-sizes_of-loop-stmt
invariant-sizes_of-loop-stmt l = behind l.total (map naming_of (drop l.stmt-index l.stmts)) ≡ behind 0 (map naming_of l.stmts)

abbrev pub decreases-sizes_of : goal.decreases-sizes_of
decreases-sizes_of l = 2 * stmts_weight l.stmts.now + 1

abbrev pub decreases-size_of : goal.decreases-size_of
decreases-size_of l = 2 * stmt_weight l.stmt.now + 0
