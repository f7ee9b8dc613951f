use Rattle.std.proofs.Common.{◌≡◌, ◌+◌, ◌/◌, vec_len}
use Rattle.pr_cut_units.specs.Parts.{each}
use Rattle.pr_cut_units.specs.Products.{row_cell}
use Rattle.pr_cutmul.proofs.products.row_cells.Given as goal

abbrev pub invariant-loop-i : goal.invariant-loop-i
invariant-loop-i l = record {
  count : vec_len l.all ≡ l.i;
  all : l.all.items ≡ each l.i (λ i. row_cell l.e l.factors.wa l.factors.a.now l.factors.b.now l.j l.before (l.j / 8 + i));
}
