use Rattle.std.proofs.Common.{◌≡◌, replicate, vec_len, vec_capacity}
use Rattle.pr_stripe.proofs.stripes.zeros.Given as goal

abbrev pub invariant-loop : goal.invariant-loop
invariant-loop l = record {
  items : l.bytes.items ≡ replicate l.counter 0;
  length : vec_len l.bytes ≡ l.counter;
  room : vec_capacity l.bytes ≡ l.count;
}
