use Rattle.std.proofs.Common.{◌≡◌, ◌++◌, drop}
use Rattle.pr_place.specs.Numbering.{unit_reads_of}
use Rattle.pr_place.proofs.readings.push_unit.Given as goal

abbrev pub invariant-loop-cell : goal.invariant-loop-cell
invariant-loop-cell l = l.reads.items ++ unit_reads_of l.first l.owner l.group (drop l.cell-index l.cells) ≡ l.fn.reads.items ++ unit_reads_of l.first l.owner l.group l.cells
