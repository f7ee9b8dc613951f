use Rattle.std.proofs.Common.{◌≡◌, replicate, vec_len, vec_capacity}
use Rattle.pr_samples.proofs.rooms.filled.Given as goal

abbrev pub invariant-loop : goal.invariant-loop
invariant-loop g l = record {
  items : l.list.items ≡ replicate l.counter l.value;
  length : vec_len l.list ≡ l.counter;
  room : vec_capacity l.list ≡ l.count;
}
