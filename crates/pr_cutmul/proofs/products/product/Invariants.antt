use Rattle.std.proofs.Common.{◌≡◌, ◌≤◌, ◌+◌, ◌-◌, ◌*◌, ◌++◌, length, min}
use Rattle.pr_cut_units.specs.Parts.{in_turn}
use Rattle.pr_cut_units.specs.Products.{product_row, product}
use Rattle.pr_cutmul.proofs.products.product.Given as goal

abbrev pub invariant-loop-j : goal.invariant-loop-j
invariant-loop-j l = record {
  kept : length l.fn.units.items ≤ length l.units.items;
  grows : length l.units.items ≤ length l.fn.units.items + 40 * l.j;
  units : l.units.items ++ (in_turn (product_row l.e l.factors.wa l.factors.a.now l.factors.b.now) l.j (min l.factors.wb l.e - l.j) l.before.items (length l.units.items)).units ≡ l.fn.units.items ++ (product l.e l.factors.a.now l.factors.wa l.factors.b.now l.factors.wb (length l.fn.units.items)).units;
  slices : (in_turn (product_row l.e l.factors.wa l.factors.a.now l.factors.b.now) l.j (min l.factors.wb l.e - l.j) l.before.items (length l.units.items)).slices ≡ (product l.e l.factors.a.now l.factors.wa l.factors.b.now l.factors.wb (length l.fn.units.items)).slices;
}
