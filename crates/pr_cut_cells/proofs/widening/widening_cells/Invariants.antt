use Rattle.std.proofs.Common.{true, ◌≡◌, ◌+◌, ◌/◌, vec_len}
use Rattle.pr_cut_units.specs.Parts.{each}
use Rattle.pr_cut_units.specs.Widening.{read_as, widening_cell}
use Rattle.pr_cut_cells.proofs.widening.widening_cells.Given as goal

abbrev pub invariant-loop-i : goal.invariant-loop-i
invariant-loop-i l = record {
  count : vec_len l.all ≡ l.i;
  all : l.all.items ≡ each l.i (λ i. widening_cell (read_as true l.w l.a) l.t (l.w / 8 + i));
}
