use Rattle.std.proofs.Common.{◌≡◌, ◌^◌, ◌<◌, take}
use Rattle.pr_base.specs.Numbers.{number_of}
use Rattle.pr_samples.proofs.results.short_number.Given as goal

abbrev pub invariant-loop-i : goal.invariant-loop-i
invariant-loop-i l = record {
  so_far : l.n ≡ number_of (take l.i l.bytes);
  small : l.n < 256 ^ l.i;
}
