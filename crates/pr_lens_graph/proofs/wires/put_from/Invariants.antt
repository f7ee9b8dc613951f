use Rattle.std.proofs.Common.{◌≡◌, ◌++◌, drop}
use Rattle.pr_lens_graph.specs.Arrows.{arrows_from}
use Rattle.pr_lens_graph.proofs.wires.put_from.Given as goal

abbrev pub invariant-loop-unit : goal.invariant-loop-unit
invariant-loop-unit l = l.text.items ++ arrows_from l.reader l.end (drop l.unit-index l.units) ≡ l.fn.text.items ++ arrows_from l.reader l.end l.units
