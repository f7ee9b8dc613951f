use Rattle.std.proofs.Common.{◌≡◌, ◌++◌, drop}
use Rattle.pr_lens_shares.specs.Owners.{owned}
use Rattle.pr_lens_shares.proofs.owners.put_owned.Given as goal

abbrev pub invariant-loop-place : goal.invariant-loop-place
invariant-loop-place l = l.owners.items ++ owned l.place (drop l.place l.counts) ≡ l.fn.owners.items ++ owned 0 l.counts
