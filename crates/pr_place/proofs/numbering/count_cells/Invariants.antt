use Rattle.std.proofs.Common.{◌≡◌, ◌+◌, ◌-◌, ◌^◌, ◌≤◌, drop, min}
use Rattle.pr_place.specs.Numbering.{cells_in}
use Rattle.pr_place.proofs.numbering.count_cells.Given as goal

abbrev pub invariant-loop-unit : goal.invariant-loop-unit
invariant-loop-unit l = record {
  rest : min (l.cells + cells_in (drop l.unit-index l.units)) (2 ^ 64 - 1) ≡ min (cells_in l.units) (2 ^ 64 - 1);
  most : l.cells ≤ 2 ^ 64 - 1;
}
