use Rattle.std.proofs.Common.{map, take}
use Rattle.pr_net.specs.Shape.{wire_of}
use Rattle.pr_lens_graph.specs.Reads.{AreReads}
use Rattle.pr_lens_graph.proofs.wires.reads_of_slices.Given as goal

abbrev pub invariant-loop-slice : goal.invariant-loop-slice
invariant-loop-slice l = AreReads l.reads (map wire_of (take l.slice-index l.slices))
