use Rattle.std.proofs.Common.{◌≡◌}
use Rattle.pr_lens_origins.specs.Spots.{cursor_at}
use Rattle.pr_lens_origins.proofs.spots.advanced.Given as goal

abbrev pub invariant-loop-at : goal.invariant-loop-at
invariant-loop-at l = l.cursor ≡ cursor_at l.text l.at
