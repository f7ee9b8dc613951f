use Rattle.std.proofs.Common.{◌<◌, ℕ, get_or}
use Rattle.pr_place.specs.Candidates.{block_of, part_of, HasSets, HasClass}
use Rattle.pr_place.proofs.starts.summary.Given as goal

abbrev pub invariant-loop-group : goal.invariant-loop-group
invariant-loop-group l = record {
  blocks : HasSets l.ready l.summary.items;
  covered : (k : ℕ) → k < l.group → get_or l.ready k 0 < 64 → HasClass l.ready l.summary.items (block_of k) k × HasClass l.ready l.summary.items (part_of k) k;
}
