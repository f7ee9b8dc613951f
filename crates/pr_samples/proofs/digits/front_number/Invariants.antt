use Rattle.std.proofs.Common.{◌≡◌, ◌^◌, ◌<◌, true, take}
use Rattle.std.specs.List.{list_all}
use Rattle.pr_samples.specs.Fed.{is_digit, value_after}
use Rattle.pr_samples.proofs.digits.front_number.Given as goal

abbrev pub invariant-loop-i : goal.invariant-loop-i
invariant-loop-i l = record {
  digits : list_all is_digit (take l.i l.bytes) ≡ true;
  number : l.n ≡ value_after 0 (take l.i l.bytes);
  low : l.n < 10 ^ l.i;
}
