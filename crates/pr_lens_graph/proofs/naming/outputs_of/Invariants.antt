use Rattle.std.proofs.Common.{◌≡◌, take}
use Rattle.std.specs.List.{flat_map}
use Rattle.pr_lens_graph.specs.Names.{output_in}
use Rattle.pr_lens_graph.proofs.naming.outputs_of.Given as goal

abbrev pub invariant-loop-item : goal.invariant-loop-item
invariant-loop-item l = l.names.items ≡ flat_map output_in (take l.item-index l.items)
