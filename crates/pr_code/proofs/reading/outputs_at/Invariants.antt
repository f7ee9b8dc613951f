use Rattle.std.proofs.Common.{◌≡◌, ◌≤◌, ◌+◌, ◌-◌, ◌*◌, ◌++◌, drop, map}
use Rattle.pr_conf.specs.Shape.{output_shape}
use Rattle.pr_code.specs.Reading.{words_of_bytes, outputs_of, outputs_length}
use Rattle.pr_code.specs.Rules.{first_broken, outputs_rules}
use Rattle.pr_code.proofs.reading.outputs_at.Given as goal

abbrev pub invariant-loop : goal.invariant-loop
invariant-loop l = record {
  place : l.at ≤ l.place + 17 * l.counter;
  rules : first_broken (outputs_rules l.bounds.widest l.bounds.columns l.bounds.registers (l.count - l.counter) (drop l.at (words_of_bytes l.bytes))) l.at (drop l.at (words_of_bytes l.bytes)) ≡ first_broken (outputs_rules l.bounds.widest l.bounds.columns l.bounds.registers l.count (drop l.place (words_of_bytes l.bytes))) l.place (drop l.place (words_of_bytes l.bytes));
  found : map output_shape l.outputs.items ++ outputs_of (l.count - l.counter) (drop l.at (words_of_bytes l.bytes)) ≡ outputs_of l.count (drop l.place (words_of_bytes l.bytes));
  next : l.at + outputs_length (l.count - l.counter) (drop l.at (words_of_bytes l.bytes)) ≡ l.place + outputs_length l.count (drop l.place (words_of_bytes l.bytes));
}
