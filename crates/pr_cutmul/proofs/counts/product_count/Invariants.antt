use Rattle.std.proofs.Common.{ℕ, ◌≡◌, ◌≤◌, ◌-◌, ◌*◌, ◌/◌}
use Rattle.std.specs.List.{sum}
use Rattle.pr_base.specs.Numbers.{slices_of}
use Rattle.pr_cut_units.specs.Parts.{each}
use Rattle.pr_cut_units.specs.Products.{row_width}
use Rattle.pr_cut_units.specs.Counts.{chain_count}
use Rattle.pr_cutmul.proofs.counts.product_count.Given as goal

abbrev pub invariant-loop-j : goal.invariant-loop-j
invariant-loop-j l = record {
  is : l.count ≡ sum (each l.j (λ (j : ℕ). chain_count (slices_of (row_width l.e l.wa j) - j / 8)));
  few : l.count ≤ 100 * l.j;
}
