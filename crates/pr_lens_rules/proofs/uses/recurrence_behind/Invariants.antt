use Rattle.std.proofs.Common.{◌≡◌, length}
use Rattle.pr_lens_source.specs.Ranges.{first_between}
use Rattle.pr_lens_rules.specs.Uses.{is_recurrence_of}
use Rattle.pr_lens_rules.proofs.uses.recurrence_behind.Given as goal

abbrev pub invariant-loop-first : goal.invariant-loop-first
invariant-loop-first l =
    first_between (is_recurrence_of l.source.text.now l.source.tokens.now l.source.spans.now l.token) l.first (length l.source.tokens.now)
    ≡ first_between (is_recurrence_of l.source.text.now l.source.tokens.now l.source.spans.now l.token) l.token (length l.source.tokens.now)
