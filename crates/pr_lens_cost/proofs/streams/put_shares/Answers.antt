use Rattle.std.proofs.Common.{arith}
use Rattle.std.proofs.lemmas.Grind.{common_steps}
use Rattle.pr_lens_cost.proofs.streams.put_shares.Goals as goal

pub loop-share-preserved : goal.loop-share-preserved
loop-share-preserved c = grind (arith, common_steps)
