use Rattle.std.proofs.Common.{◌≡◌, ◌++◌, drop}
use Rattle.pr_place.specs.Numbering.{needs_in}
use Rattle.pr_place.proofs.celltables.needs_of.Given as goal

abbrev pub invariant-loop-cell : goal.invariant-loop-cell
invariant-loop-cell l = l.needs.items ++ needs_in l.kept l.uses (drop l.cell-index l.cells) ≡ needs_in l.kept l.uses l.cells
