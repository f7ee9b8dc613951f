use Rattle.std.proofs.Common.{◌≡◌, ◌-◌, ◌≤◌, ◌++◌, length}
use Rattle.pr_lens_warn.specs.Comparisons.{by_tokens, verdicts_from}
use Rattle.pr_lens_warn.proofs.comparisons.by_tokens.Given as goal

abbrev pub invariant-loop-at : goal.invariant-loop-at
invariant-loop-at l = record {
  few : l.next ≤ l.at;
  count : length l.all.items ≡ l.at;
  rest : l.all.items ++ verdicts_from l.source.tokens.now l.verdicts (length l.source.tokens.now - l.at) l.at l.next ≡ by_tokens l.source.tokens.now l.verdicts;
}
