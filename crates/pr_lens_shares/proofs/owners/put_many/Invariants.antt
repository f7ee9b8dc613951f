use Rattle.std.proofs.Common.{◌≡◌, ◌++◌, Some, replicate}
use Rattle.pr_lens_shares.proofs.owners.put_many.Given as goal

abbrev pub invariant-loop : goal.invariant-loop
invariant-loop l = l.owners.items ≡ l.fn.owners.items ++ replicate l.counter (Some l.place)
