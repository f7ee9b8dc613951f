use Rattle.std.proofs.Common.{◌≡◌, ◌+◌, ◌++◌, drop}
use Rattle.pr_place.specs.Numbering.{firsts_from, cells_in}
use Rattle.pr_place.proofs.numbering.number_cells.Given as goal

abbrev pub invariant-loop-unit : goal.invariant-loop-unit
invariant-loop-unit l = record {
  first : l.first.items ++ firsts_from l.cells (drop l.unit-index l.units) ≡ firsts_from 0 l.units;
  count : l.cells + cells_in (drop l.unit-index l.units) ≡ cells_in l.units;
}
