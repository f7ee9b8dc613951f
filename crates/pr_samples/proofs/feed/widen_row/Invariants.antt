use Rattle.std.proofs.Common.{◌≡◌, length, take}
use Rattle.pr_samples.proofs.feed.widen_row.Given as goal

abbrev pub invariant-loop-i : goal.invariant-loop-i
invariant-loop-i l = record {
  long : length l.into ≡ length l.numbers;
  done : take l.i l.into ≡ take l.i l.numbers;
}
