use Rattle.std.proofs.Common.{take}
use Rattle.pr_lens_graph.specs.Reads.{AreReads, unit_wires}
use Rattle.pr_lens_graph.proofs.wires.reads_of_cells.Given as goal

abbrev pub invariant-loop-cell : goal.invariant-loop-cell
invariant-loop-cell l = AreReads l.reads (unit_wires (take l.cell-index l.cells))
