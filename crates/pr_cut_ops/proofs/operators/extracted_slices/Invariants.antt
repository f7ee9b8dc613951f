use Rattle.std.proofs.Common.{◌≡◌, ◌+◌, ◌/◌, vec_len}
use Rattle.pr_cut_units.specs.Parts.{each}
use Rattle.pr_cut_units.specs.Cells.{slice_at}
use Rattle.pr_cut_ops.proofs.operators.extracted_slices.Given as goal

abbrev pub invariant-loop-i : goal.invariant-loop-i
invariant-loop-i l = record {
  count : vec_len l.all ≡ l.i;
  all : l.all.items ≡ each l.i (λ i. slice_at l.x (i + l.l / 8));
}
