use Rattle.std.proofs.Common.{◌≡◌, take}
use Rattle.std.specs.List.{flat_map}
use Rattle.pr_lens_shares.specs.Shares.{share_at}
use Rattle.pr_lens_shares.proofs.shares.shares_at.Given as goal

abbrev pub invariant-loop-place : goal.invariant-loop-place
invariant-loop-place l = l.shares.items ≡ flat_map (share_at l.instances l.counts) (take l.place-index l.places)
