use Rattle.std.proofs.Common.{◌≡◌, ◌++◌, drop}
use Rattle.pr_net.specs.Whole.{shape_of}
use Rattle.pr_place.specs.Lists.{Holds, joined}
use Rattle.pr_place.specs.Numbering.{reads_from}
use Rattle.pr_place.specs.Tables.{reads_by}
use Rattle.pr_place.proofs.readings.read_lists.Given as goal

abbrev pub invariant-loop-group : goal.invariant-loop-group
invariant-loop-group g l = record {
  reads : Holds (reads_by (shape_of l.net) l.first l.owner) l.group l.starts.items l.items.items;
  all : l.items.items ++ joined (reads_from l.net.units.items l.first l.owner l.group (drop l.group l.net.groups.items)) ≡ joined (reads_from l.net.units.items l.first l.owner 0 l.net.groups.items);
}
