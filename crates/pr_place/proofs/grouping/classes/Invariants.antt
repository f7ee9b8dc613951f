use Rattle.std.proofs.Common.{◌≡◌, ◌≢◌, ◌<◌, ◌≤◌, ℕ, [], get_or, length, vec_len}
use Rattle.pr_place.specs.Plans.{needs_at}
use Rattle.pr_place.specs.Tables.{kinds_of}
use Rattle.pr_place.proofs.grouping.classes.Given as goal

abbrev pub invariant-loop-group : goal.invariant-loop-group
invariant-loop-group l = record {
  few : vec_len l.kinds ≤ 63;
  long : length l.class.items ≡ l.group;
  small : (k : ℕ) → get_or l.class.items k 0 < 64;
  kind : (k : ℕ) → k < l.group → get_or l.class.items k 0 ≢ 63 → (get_or l.class.items k 0 < length l.kinds.items) × (get_or (kinds_of l.kinds.items) (get_or l.class.items k 0) [] ≡ needs_at l.plans k);
}
