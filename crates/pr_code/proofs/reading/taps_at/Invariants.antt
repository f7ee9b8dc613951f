use Rattle.std.proofs.Common.{◌≡◌, ◌+◌, ◌-◌, ◌++◌, take, drop, map, replicate, vec_len}
use Rattle.pr_code.specs.Reading.{words_of_bytes, tap_of}
use Rattle.pr_code.specs.Rules.{first_broken, tap_rule}
use Rattle.pr_code.proofs.reading.taps_at.Given as goal

abbrev pub invariant-loop : goal.invariant-loop
invariant-loop l = record {
  place : l.at ≡ l.place + l.counter;
  count : vec_len l.taps ≡ l.counter;
  rules : first_broken (replicate (l.count - l.counter) (tap_rule l.columns l.registers)) l.at (drop l.at (words_of_bytes l.bytes)) ≡ first_broken (replicate l.count (tap_rule l.columns l.registers)) l.place (drop l.place (words_of_bytes l.bytes));
  found : l.taps.items ++ map tap_of (take (l.count - l.counter) (drop l.at (words_of_bytes l.bytes))) ≡ map tap_of (take l.count (drop l.place (words_of_bytes l.bytes)));
}
