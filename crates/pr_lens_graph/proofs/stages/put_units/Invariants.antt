use Rattle.pr_lens_graph.proofs.NodeLaws.{GainsSoFar}
use Rattle.pr_lens_graph.proofs.stages.put_units.Given as goal

abbrev pub invariant-loop-number : goal.invariant-loop-number
invariant-loop-number l = GainsSoFar l.names l.units l.stages l.number l.fn.texts l.texts
