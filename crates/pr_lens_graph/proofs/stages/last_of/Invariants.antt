use Rattle.std.proofs.Common.{◌≡◌, take}
use Rattle.pr_lens_graph.specs.Nodes.{last_of}
use Rattle.pr_lens_graph.proofs.stages.last_of.Given as goal

abbrev pub invariant-loop-stage : goal.invariant-loop-stage
invariant-loop-stage l = l.last ≡ last_of (take l.stage-index l.stages)
