use Rattle.std.proofs.Common.{◌≡◌, vec_len}
use Rattle.pr_cut_units.specs.Parts.{each}
use Rattle.pr_cut_units.specs.Operators.{moved_left_cell}
use Rattle.pr_cut_ops.proofs.operators.moved_left_cells.Given as goal

abbrev pub invariant-loop-i : goal.invariant-loop-i
invariant-loop-i l = record {
  count : vec_len l.all ≡ l.i;
  all : l.all.items ≡ each l.i (λ i. moved_left_cell l.e l.k l.x i);
}
