use Rattle.std.proofs.Common.{bit_and}
use Rattle.pr_lanes.proofs.LaneLaws.{own, zip_of}
use Rattle.pr_lanes.proofs.lanes.masked.Goals as goal

pub returns : goal.returns
returns c = zip_of 16 bit_and _ _ _ _ (own 16 c.args.row c.requires.row) (own 16 c.args.mask c.requires.mask)
