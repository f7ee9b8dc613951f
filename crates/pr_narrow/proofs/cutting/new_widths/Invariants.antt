use Rattle.std.proofs.Common.{◌≡◌, length, drop}
use Rattle.pr_flat.specs.Shape.{shapes_of}
use Rattle.pr_narrow.specs.Narrowed.{widths_after, new_widths}
use Rattle.pr_narrow.proofs.cutting.new_widths.Given as goal

abbrev pub invariant-loop-i : goal.invariant-loop-i
invariant-loop-i l = record {
  count : length l.news.items ≡ l.i;
  rest : widths_after l.widths l.demand l.news.items (drop l.i (shapes_of l.flat.equations.items)) ≡ new_widths (shapes_of l.flat.equations.items) l.widths l.demand;
}
