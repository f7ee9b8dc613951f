use Rattle.std.proofs.Common.{◌≡◌, length, map}
use Rattle.std.specs.List.{range_with_len}
use Rattle.pr_lens_waste.specs.Lines.{lines_in}
use Rattle.pr_lens_warn.specs.Lines.{token_tail}
use Rattle.pr_lens_warn.proofs.lines.token_tails.Given as goal

abbrev pub invariant-loop-at : goal.invariant-loop-at
invariant-loop-at l = record {
  count : length l.tails.items ≡ l.at;
  each : l.tails.items ≡ map (token_tail l.source.text.now l.source.tokens.now l.source.spans.now (lines_in l.lines)) (range_with_len 0 l.at);
}
