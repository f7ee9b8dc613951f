use Rattle.std.proofs.Common.{◌≡◌}
use Rattle.pr_lens_source.specs.Ranges.{last_below}
use Rattle.pr_lens_source.proofs.IntroducedLemmas.{is_other}
use Rattle.pr_lens_source.proofs.introduced.is_parameter.Given as goal

abbrev pub invariant-loop-before : goal.invariant-loop-before
invariant-loop-before l = last_below (is_other l.source.tokens.now) l.before ≡ last_below (is_other l.source.tokens.now) l.at

abbrev pub decreases-loop-before : goal.decreases-loop-before
decreases-loop-before l = l.before
