use Rattle.std.proofs.Common.{◌≡◌, ◌≤◌, ◌+◌, ◌++◌, drop}
use Rattle.pr_cut_units.specs.Chains.{places}
use Rattle.pr_cut_cells.proofs.chains.chain_slices.Given as goal

abbrev pub invariant-loop-cell : goal.invariant-loop-cell
invariant-loop-cell l = record {
  whole : l.slices.items ++ places l.style l.place.unit l.place.room l.place.cell (drop l.cell-index l.cells) ≡ places l.style l.unit 4 0 l.cells;
  short : l.place.cell + l.place.room ≤ 5;
  grows : l.place.unit ≤ l.unit + l.cell-index;
}
