use Rattle.std.proofs.Common.{arith}
use Rattle.std.proofs.lemmas.Grind.{common_steps}
use Rattle.pr_edge.proofs.reading.read_all.Goals as goal

pub loop-chunk-smaller : goal.loop-chunk-smaller
loop-chunk-smaller g c = grind (arith, common_steps)
