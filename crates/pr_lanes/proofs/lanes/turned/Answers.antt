use Rattle.std.proofs.Common.{bit_and, bit_xor}
use Rattle.pr_lanes.proofs.Blocks.{byte_of_lane}
use Rattle.pr_lanes.proofs.LaneLaws.{own, zip_of}
use Rattle.pr_lanes.proofs.lanes.turned.Goals as goal

pub returns-clause-lanes : goal.returns-clause-lanes
returns-clause-lanes c =
    zip_of 16 bit_xor _ _ _ _ (own 16 c.args.row c.requires.row) (zip_of 16 bit_and _ _ _ _ (own 16 c.args.by c.requires.by) (own 16 c.args.mask c.requires.mask))

pub returns-clause-bytes : goal.returns-clause-bytes
returns-clause-bytes c = λ k l. (byte_of_lane c.args.row c.requires.row c.fits-row.1 k l, byte_of_lane c.args.by c.requires.by c.fits-by.1 k l, byte_of_lane c.args.mask c.requires.mask c.fits-mask.1 k l)
