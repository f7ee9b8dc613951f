use Rattle.std.proofs.Common.{◌≡◌, ◌≤◌, ◌+◌, drop}
use Rattle.pr_cut_units.specs.declared.chains.Style.{Style}
use Rattle.pr_cut_units.specs.Chains.{place_after}
use Rattle.pr_cut_cells.proofs.chains.closing_slice.Given as goal

abbrev pub invariant-loop-cell : goal.invariant-loop-cell
invariant-loop-cell l = record {
  whole : place_after Style.ByBit l.place.unit l.place.room l.place.cell (drop l.cell-index l.cells) ≡ place_after Style.ByBit l.unit 4 0 l.cells;
  short : l.place.cell + l.place.room ≤ 5;
  grows : l.place.unit ≤ l.unit + l.cell-index;
}
