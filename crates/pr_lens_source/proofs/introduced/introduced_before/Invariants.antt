use Rattle.std.proofs.Common.{◌≡◌}
use Rattle.pr_lens_source.specs.Introduced.{is_introduced_at}
use Rattle.pr_lens_source.specs.Ranges.{first_between}
use Rattle.pr_lens_source.proofs.introduced.introduced_before.Given as goal

abbrev pub invariant-loop-earlier : goal.invariant-loop-earlier
invariant-loop-earlier l =
    first_between (is_introduced_at l.source.text.now l.source.tokens.now l.source.spans.now l.at) l.earlier l.at
    ≡ first_between (is_introduced_at l.source.text.now l.source.tokens.now l.source.spans.now l.at) 0 l.at
