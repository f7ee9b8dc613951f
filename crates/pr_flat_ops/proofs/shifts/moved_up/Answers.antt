use Rattle.pr_flat_ops.proofs.ShiftLemmas.{all_lost}
use Rattle.pr_flat_ops.proofs.shifts.moved_up.Goals as goal

pub returns-then-by-ge128 : goal.returns-then-by-ge128
returns-then-by-ge128 c = all_lost c.args.bits c.args.by c.if-by-ge128.true
