use Rattle.std.proofs.Common.{◌≡◌, vec_len}
use Rattle.pr_cut_units.specs.Parts.{each}
use Rattle.pr_cut_units.specs.Shifts.{shift_cell}
use Rattle.pr_cutmul.proofs.shifts.shift_cells.Given as goal

abbrev pub invariant-loop-i : goal.invariant-loop-i
invariant-loop-i l = record {
  count : vec_len l.all ≡ l.i;
  all : l.all.items ≡ each l.i (λ i. shift_cell l.shift.left l.shift.w l.shift.by.now l.j l.before i);
}
