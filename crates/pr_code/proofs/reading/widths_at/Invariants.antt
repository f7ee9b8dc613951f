use Rattle.std.proofs.Common.{◌≡◌, ◌≤◌, ◌+◌, ◌-◌, ◌++◌, take, drop, vec_len}
use Rattle.pr_code.specs.Reading.{words_of_bytes}
use Rattle.pr_code.specs.Rules.{first_broken, width_rules}
use Rattle.pr_code.proofs.reading.widths_at.Given as goal

abbrev pub invariant-loop : goal.invariant-loop
invariant-loop l = record {
  place : l.at ≡ l.place + l.counter;
  count : vec_len l.widths ≡ l.counter;
  within : l.used ≤ l.columns;
  rules : first_broken (width_rules l.widest l.columns (l.count - l.counter) l.used (drop l.at (words_of_bytes l.bytes))) l.at (drop l.at (words_of_bytes l.bytes)) ≡ first_broken (width_rules l.widest l.columns l.count 0 (drop l.place (words_of_bytes l.bytes))) l.place (drop l.place (words_of_bytes l.bytes));
  found : l.widths.items ++ take (l.count - l.counter) (drop l.at (words_of_bytes l.bytes)) ≡ take l.count (drop l.place (words_of_bytes l.bytes));
}
