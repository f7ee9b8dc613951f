use Rattle.std.proofs.Common.{◌∙◌, sym}
use Rattle.pr_lens_source.specs.Introduced.{introduced_before, is_introduced_at}
use Rattle.pr_lens_source.proofs.RangeLemmas.{first_none, first_here, first_later}
use Rattle.pr_lens_source.proofs.introduced.introduced_before.Goals as goal

pub returns-then-is_introduced_at-clause-value : goal.returns-then-is_introduced_at-clause-value
unfolding introduced_before
returns-then-is_introduced_at-clause-value c =
    let source = c.args.source.now in
    sym (first_here (is_introduced_at source.text.now source.tokens.now source.spans.now c.args.at) c.loop-earlier.earlier c.args.at c.loop-earlier-test.true (sym c.is_introduced_at.ensures.value ∙ c.if-is_introduced_at.true))
    ∙ c.loop-earlier.invariant

pub loop-earlier-preserved : goal.loop-earlier-preserved
loop-earlier-preserved c =
    let source = c.args.source.now in
    sym (first_later (is_introduced_at source.text.now source.tokens.now source.spans.now c.args.at) c.loop-earlier.earlier c.args.at c.loop-earlier-test.true (sym c.is_introduced_at.ensures.value ∙ c.if-is_introduced_at.false))
    ∙ c.loop-earlier.invariant

pub returns-clause-value : goal.returns-clause-value
unfolding introduced_before
returns-clause-value c =
    let source = c.args.source.now in
    sym (first_none (is_introduced_at source.text.now source.tokens.now source.spans.now c.args.at) c.loop-earlier.earlier c.args.at c.loop-earlier-test.false)
    ∙ c.loop-earlier.invariant
