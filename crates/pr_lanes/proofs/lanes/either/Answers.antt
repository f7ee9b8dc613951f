use Rattle.std.proofs.Common.{bit_or}
use Rattle.pr_lanes.proofs.LaneLaws.{own, zip_of}
use Rattle.pr_lanes.proofs.lanes.either.Goals as goal

pub returns : goal.returns
returns c = zip_of 32 bit_or _ _ _ _ (own 32 c.args.a c.requires.a) (own 32 c.args.b c.requires.b)
