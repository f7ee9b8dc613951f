use Rattle.std.proofs.Common.{◌<◌}
use Rattle.std.specs.List.{All}
use Rattle.pr_net.specs.Whole.{shape_of}
use Rattle.pr_place.specs.Lists.{Holds}
use Rattle.pr_place.specs.Tables.{cells_by}
use Rattle.pr_place.proofs.numbering.cell_lists.Given as goal

abbrev pub invariant-loop-group : goal.invariant-loop-group
invariant-loop-group g l = record {
  cells : Holds (cells_by (shape_of l.net) l.numbering.first.items) l.group l.starts.items l.items.items;
  below : All (λ x. x < l.numbering.cells) l.items.items;
}
