use Rattle.std.proofs.Common.{◌≡◌, ◌+◌, length}
use Rattle.pr_lens_source.specs.Ranges.{first_between}
use Rattle.pr_lens_warn.specs.Lines.{is_again}
use Rattle.pr_lens_warn.proofs.lines.is_last.Given as goal

abbrev pub invariant-loop-later : goal.invariant-loop-later
invariant-loop-later l =
    first_between (is_again l.source.text.now l.source.tokens.now l.source.spans.now l.at) l.later (length l.source.tokens.now)
    ≡ first_between (is_again l.source.text.now l.source.tokens.now l.source.spans.now l.at) (l.at + 1) (length l.source.tokens.now)
