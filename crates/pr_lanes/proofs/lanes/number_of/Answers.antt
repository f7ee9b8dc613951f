use Rattle.std.proofs.Common.{◌^◌, ◌<◌, subst, arith, w8}
use Rattle.std.specs.Simd.Lanes.{number_l}
use Rattle.std.proofs.lemmas.Simd.{below_from_Fits}
use Rattle.pr_lanes.proofs.SumLaws.{number_bound}
use Rattle.pr_lanes.proofs.lanes.number_of.Goals as goal

pub returns : goal.returns
returns c =
    let b : number_l 256 c.args.row < 256 ^ 16 = subst (λ n. number_l 256 c.args.row < 256 ^ n) c.requires (number_bound c.args.row (below_from_Fits w8 c.args.row c.fits-row.1)) in
    omega (arith, c.from.ensures, c.from-2.ensures, b)
