use Rattle.std.proofs.Common.{◌≡◌, ◌≤◌, ◌+◌, ◌-◌, ◌*◌, ◌++◌, drop, map, vec_len}
use Rattle.pr_conf.specs.Configuration.{pes_of}
use Rattle.pr_code.specs.Reading.{words_of_bytes, stages_of, stages_length}
use Rattle.pr_code.specs.Rules.{first_broken, stages_rules}
use Rattle.pr_code.proofs.stages.stages_at.Given as goal

abbrev pub invariant-loop-number : goal.invariant-loop-number
invariant-loop-number g l = record {
  place : l.at ≤ l.place + 258 * l.number;
  count : vec_len l.stages ≡ l.number;
  rules : first_broken (stages_rules l.packed g.row.N g.row.P l.bus l.number (l.count - l.number) (drop l.at (words_of_bytes l.bytes))) l.at (drop l.at (words_of_bytes l.bytes)) ≡ first_broken (stages_rules l.packed g.row.N g.row.P l.bus 0 l.count (drop l.place (words_of_bytes l.bytes))) l.place (drop l.place (words_of_bytes l.bytes));
  found : map pes_of l.stages.items ++ stages_of l.packed g.row.N (l.count - l.number) (drop l.at (words_of_bytes l.bytes)) ≡ stages_of l.packed g.row.N l.count (drop l.place (words_of_bytes l.bytes));
  next : l.at + stages_length l.packed g.row.N (l.count - l.number) (drop l.at (words_of_bytes l.bytes)) ≡ l.place + stages_length l.packed g.row.N l.count (drop l.place (words_of_bytes l.bytes));
}
