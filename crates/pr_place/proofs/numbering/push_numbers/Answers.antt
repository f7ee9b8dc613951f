use Rattle.pr_place.proofs.Moves.{range_on}
use Rattle.pr_place.proofs.numbering.push_numbers.Goals as goal

pub loop-i-preserved : goal.loop-i-preserved
loop-i-preserved c = range_on c.loop-i.numbers.items _ _ c.args.from c.loop-i.i c.args.count c.loop-i-test.true c.in_ok-push.ensures.items c.loop-i.invariant
