use Rattle.pr_flat_ops.proofs.ShiftLemmas.{none_left}
use Rattle.pr_flat_ops.proofs.shifts.moved_down.Goals as goal

pub returns-then-by-ge128 : goal.returns-then-by-ge128
returns-then-by-ge128 c = none_left c.args.bits c.args.by c.ranges.bits.fits c.if-by-ge128.true
