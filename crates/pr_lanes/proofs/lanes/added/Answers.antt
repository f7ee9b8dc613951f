use Rattle.std.proofs.Common.{◌+◌, ◌%◌}
use Rattle.pr_lanes.proofs.LaneLaws.{own, zip_of}
use Rattle.pr_lanes.proofs.lanes.added.Goals as goal

pub returns : goal.returns
returns c = zip_of 16 (λ x y. (x + y) % 256) _ _ _ _ (own 16 c.args.a c.requires.a) (own 16 c.args.b c.requires.b)
