use Rattle.std.proofs.Common.{◌≡◌}
use Rattle.pr_lens_source.specs.Ranges.{first_between}
use Rattle.pr_lens_rules.specs.Uses.{is_sought}
use Rattle.pr_lens_rules.proofs.crossed.first_sought.Given as goal

abbrev pub invariant-loop-at : goal.invariant-loop-at
invariant-loop-at l =
    first_between (is_sought l.source.text.now l.source.tokens.now l.sought) l.at l.to
    ≡ first_between (is_sought l.source.text.now l.source.tokens.now l.sought) l.from l.to
