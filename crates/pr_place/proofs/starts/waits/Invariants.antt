use Rattle.std.proofs.Common.{◌≡◌, ◌<◌, ℕ, [], get_or, length}
use Rattle.pr_place.specs.Plans.{lists_of}
use Rattle.pr_place.proofs.starts.waits.Given as goal

abbrev pub invariant-loop-group : goal.invariant-loop-group
invariant-loop-group l = record {
  long : length l.waits.items ≡ l.group;
  waits : (k : ℕ) → k < l.group → get_or l.waits.items k 0 ≡ length (get_or (lists_of l.reads) k []);
}
