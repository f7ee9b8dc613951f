use Rattle.std.proofs.Common.{arith}
use Rattle.pr_lens_origins.proofs.spots.moved.Goals as goal

pub advanced-requires-clause-is : goal.advanced-requires-clause-is
advanced-requires-clause-is c = c.begin.ensures.is c.args.text.now

pub advanced-requires-clause-order : goal.advanced-requires-clause-order
advanced-requires-clause-order c = omega (arith, c.begin.ensures.offset)
