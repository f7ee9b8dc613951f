use Rattle.std.proofs.Common.{◌≡◌, ◌++◌, drop}
use Rattle.pr_lens_graph.specs.Arrows.{outputs_text}
use Rattle.pr_lens_graph.proofs.wires.put_outputs.Given as goal

abbrev pub invariant-loop-number : goal.invariant-loop-number
invariant-loop-number l = l.text.items ++ outputs_text l.names l.number (drop l.number l.outputs) ≡ l.fn.text.items ++ outputs_text l.names 0 l.outputs
