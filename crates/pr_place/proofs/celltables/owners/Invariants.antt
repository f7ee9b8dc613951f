use Rattle.std.proofs.Common.{◌≡◌, ◌+◌, ◌<◌, ℕ, get_or, length}
use Rattle.pr_net.specs.Whole.{shape_of}
use Rattle.pr_place.specs.Tracking.{IsCellOf}
use Rattle.pr_place.proofs.celltables.owners.Given as goal

abbrev pub invariant-loop-group : goal.invariant-loop-group
invariant-loop-group g l = record {
  long : length l.owner.items ≡ l.numbering.cells;
  owner : (h u i : ℕ) → IsCellOf (shape_of l.net) h u i → h < l.group → get_or l.owner.items (get_or l.numbering.first.items u 0 + i) 0 ≡ h;
}
