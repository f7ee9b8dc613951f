use Rattle.std.proofs.Common.{◌≡◌, [], replicate}
use Rattle.pr_lens_graph.specs.Nodes.{texts_of}
use Rattle.pr_lens_graph.proofs.stages.empty_texts.Given as goal

abbrev pub invariant-loop : goal.invariant-loop
invariant-loop l = texts_of l.texts.items ≡ replicate l.counter []
