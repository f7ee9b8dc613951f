use Rattle.std.proofs.Common.{◌≡◌, ◌++◌, drop}
use Rattle.pr_lens_graph.specs.Nodes.{stages_with, texts_of}
use Rattle.pr_lens_graph.proofs.stages.put_each.Given as goal

abbrev pub invariant-loop-stage : goal.invariant-loop-stage
invariant-loop-stage l = l.text.items ++ stages_with l.stage (texts_of (drop l.stage l.nodes)) ≡ l.fn.text.items ++ stages_with 0 (texts_of l.nodes)
