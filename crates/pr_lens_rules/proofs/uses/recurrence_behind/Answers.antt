use Rattle.std.proofs.Common.{◌∙◌, length, sym}
use Rattle.pr_lens_source.proofs.RangeLemmas.{first_none, first_here, first_later}
use Rattle.pr_lens_rules.specs.Uses.{is_recurrence_of, recurrence_behind}
use Rattle.pr_lens_rules.proofs.uses.recurrence_behind.Goals as goal

pub returns-then-is_recurrence_of-clause-first : goal.returns-then-is_recurrence_of-clause-first
unfolding recurrence_behind
returns-then-is_recurrence_of-clause-first c =
    let source = c.args.source.now in
    sym (first_here (is_recurrence_of source.text.now source.tokens.now source.spans.now c.args.token) c.loop-first.first (length source.tokens.now) c.loop-first-test.true (sym c.is_recurrence_of.ensures ∙ c.if-is_recurrence_of.true))
    ∙ c.loop-first.invariant

pub loop-first-preserved : goal.loop-first-preserved
loop-first-preserved c =
    let source = c.args.source.now in
    sym (first_later (is_recurrence_of source.text.now source.tokens.now source.spans.now c.args.token) c.loop-first.first (length source.tokens.now) c.loop-first-test.true (sym c.is_recurrence_of.ensures ∙ c.if-is_recurrence_of.false))
    ∙ c.loop-first.invariant

pub returns-clause-first : goal.returns-clause-first
unfolding recurrence_behind
returns-clause-first c =
    let source = c.args.source.now in
    sym (first_none (is_recurrence_of source.text.now source.tokens.now source.spans.now c.args.token) c.loop-first.first (length source.tokens.now) c.loop-first-test.false)
    ∙ c.loop-first.invariant
