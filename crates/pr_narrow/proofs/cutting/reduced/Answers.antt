use Rattle.std.proofs.Common.{arith}
use Rattle.pr_narrow.proofs.BodyLemmas.{kept_whole}
use Rattle.pr_narrow.proofs.cutting.reduced.Goals as goal

pub returns-else-width-lt64 : goal.returns-else-width-lt64
returns-else-width-lt64 c = kept_whole c.args.number c.args.width c.ranges.number.fits (omega (arith, c.if-width-lt64.false))
