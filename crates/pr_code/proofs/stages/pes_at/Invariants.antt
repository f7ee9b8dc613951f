use Rattle.std.proofs.Common.{◌≡◌, ◌≤◌, ◌+◌, ◌-◌, ◌*◌, ◌++◌, drop, vec_len}
use Rattle.pr_code.specs.Reading.{words_of_bytes, flags_of, pes_of, pes_length}
use Rattle.pr_code.specs.Rules.{first_broken, pes_rules}
use Rattle.pr_code.proofs.stages.pes_at.Given as goal

abbrev pub invariant-loop : goal.invariant-loop
invariant-loop l = record {
  col : l.here.col ≡ l.counter;
  place : l.at ≤ l.place + 4 * l.counter;
  count : vec_len l.pes ≡ l.counter;
  rules : first_broken (pes_rules l.packed l.here (flags_of (l.fn.site.columns - l.counter) l.left) (drop l.at (words_of_bytes l.bytes))) l.at (drop l.at (words_of_bytes l.bytes)) ≡ first_broken (pes_rules l.packed l.fn.site (flags_of l.fn.site.columns l.marks) (drop l.place (words_of_bytes l.bytes))) l.place (drop l.place (words_of_bytes l.bytes));
  found : l.pes.items ++ pes_of (flags_of (l.fn.site.columns - l.counter) l.left) (drop l.at (words_of_bytes l.bytes)) ≡ pes_of (flags_of l.fn.site.columns l.marks) (drop l.place (words_of_bytes l.bytes));
  next : l.at + pes_length (flags_of (l.fn.site.columns - l.counter) l.left) ≡ l.place + pes_length (flags_of l.fn.site.columns l.marks);
}
