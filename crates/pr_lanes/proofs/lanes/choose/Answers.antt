use Rattle.std.proofs.Common.{◌-◌, bit_and, bit_or}
use Rattle.pr_lanes.proofs.Blocks.{byte_of_lane}
use Rattle.pr_lanes.proofs.LaneLaws.{own, zip_of, map_of}
use Rattle.pr_lanes.proofs.lanes.choose.Goals as goal

pub returns-clause-lanes : goal.returns-clause-lanes
returns-clause-lanes c =
    let by = own 16 c.args.by c.requires.by in
    zip_of 16 bit_or _ _ _ _ (zip_of 16 bit_and _ _ _ _ (own 16 c.args.off c.requires.off) (map_of 16 (λ x. 255 - x) _ _ by)) (zip_of 16 bit_and _ _ _ _ (own 16 c.args.on c.requires.on) by)

pub returns-clause-bytes : goal.returns-clause-bytes
returns-clause-bytes c = λ k l. (byte_of_lane c.args.off c.requires.off c.fits-off.1 k l, byte_of_lane c.args.on c.requires.on c.fits-on.1 k l)
