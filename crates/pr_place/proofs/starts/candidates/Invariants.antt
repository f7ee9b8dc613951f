use Rattle.std.proofs.Common.{◌≡◌, ◌<◌, ◌==◌, ℕ, get_or, length, if◌then◌else◌}
use Rattle.pr_place.proofs.starts.candidates.Given as goal

abbrev pub invariant-loop-group : goal.invariant-loop-group
invariant-loop-group l = record {
  long : length l.ready.items ≡ l.group;
  ready : (k : ℕ) → k < l.group → get_or l.ready.items k 0 ≡ (if get_or l.waits k 0 == 0 then get_or l.class k 0 else 255);
}
