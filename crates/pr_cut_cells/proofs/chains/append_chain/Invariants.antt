use Rattle.std.proofs.Common.{◌≡◌, ◌≤◌, ◌+◌, [], ◌++◌, length, drop, vec_len}
use Rattle.pr_cut_units.specs.Chains.{linked, segments}
use Rattle.pr_cut_cells.proofs.chains.append_chain.Given as goal

abbrev pub invariant-loop-cell : goal.invariant-loop-cell
invariant-loop-cell l = record {
  whole : l.units.items ++ segments l.style (length l.units.items) l.open.room l.open.cells.items l.close (linked l.cin (drop l.cell-index l.cells)) ≡ l.fn.units.items ++ segments l.style (length l.fn.units.items) 4 [] l.close (linked l.fn.first l.cells);
  short : vec_len l.open.cells + l.open.room ≤ 5;
  kept : length l.fn.units.items ≤ length l.units.items;
  grows : length l.units.items ≤ length l.fn.units.items + l.cell-index;
}
