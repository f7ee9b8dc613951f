use Rattle.pr_place.proofs.Sets.{in_either}
use Rattle.pr_place.proofs.candidates.union_of.Goals as goal

pub loop-at-preserved : goal.loop-at-preserved
loop-at-preserved c = λ at k lo hi one. in_either c.args.sets.now c.loop-at.set c.args.from c.loop-at.at at k c.loop-at.invariant lo hi one
