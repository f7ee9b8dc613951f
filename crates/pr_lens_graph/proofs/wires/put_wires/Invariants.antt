use Rattle.std.proofs.Common.{◌≡◌, ◌++◌, drop}
use Rattle.pr_lens_graph.specs.Arrows.{units_arrows}
use Rattle.pr_lens_graph.proofs.wires.put_wires.Given as goal

abbrev pub invariant-loop-number : goal.invariant-loop-number
invariant-loop-number l = l.text.items ++ units_arrows l.number (drop l.number l.units) ≡ l.fn.text.items ++ units_arrows 0 l.units
