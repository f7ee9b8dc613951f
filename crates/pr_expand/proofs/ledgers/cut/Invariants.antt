use Rattle.std.proofs.Common.{◌≡◌, take, vec_len}
use Rattle.pr_expand.proofs.ledgers.cut.Given as goal

abbrev pub invariant-shorter : goal.invariant-shorter
invariant-shorter l = take l.count l.ledger.equations.items ≡ take l.count l.fn.ledger.equations.items

abbrev pub decreases-shorter : goal.decreases-shorter
decreases-shorter l = vec_len l.ledger.equations
