use Rattle.pr_lens_warn.specs.Needs.{IsUnusedBetween}
use Rattle.pr_lens_warn.proofs.needs.is_used_between.Given as goal

abbrev pub invariant-loop-statement : goal.invariant-loop-statement
invariant-loop-statement l =
    IsUnusedBetween l.source.text.now l.source.tokens.now l.source.spans.now l.marks l.from l.statement l.assigned
