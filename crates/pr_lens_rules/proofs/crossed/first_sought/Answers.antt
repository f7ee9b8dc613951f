use Rattle.std.proofs.Common.{◌∙◌, ℕ, Option, sym, ap}
use Rattle.std.specs.Prelude.{unwrap_or}
use Rattle.pr_lens_source.proofs.RangeLemmas.{first_none, first_here, first_later}
use Rattle.pr_lens_rules.specs.Uses.{first_sought, is_sought}
use Rattle.pr_lens_rules.proofs.crossed.first_sought.Goals as goal

pub returns-then-is_sought : goal.returns-then-is_sought
unfolding first_sought
returns-then-is_sought c =
    let source = c.args.source.now in
    ap (λ (o : Option ℕ). unwrap_or o c.args.to) (sym (first_here (is_sought source.text.now source.tokens.now c.args.sought) c.loop-at.at c.args.to c.loop-at-test.true (sym c.is_sought.ensures ∙ c.if-is_sought.true))
    ∙ c.loop-at.invariant)

pub loop-at-preserved : goal.loop-at-preserved
loop-at-preserved c =
    let source = c.args.source.now in
    sym (first_later (is_sought source.text.now source.tokens.now c.args.sought) c.loop-at.at c.args.to c.loop-at-test.true (sym c.is_sought.ensures ∙ c.if-is_sought.false))
    ∙ c.loop-at.invariant

pub returns : goal.returns
unfolding first_sought
returns c =
    let source = c.args.source.now in
    ap (λ (o : Option ℕ). unwrap_or o c.args.to) (sym (first_none (is_sought source.text.now source.tokens.now c.args.sought) c.loop-at.at c.args.to c.loop-at-test.false)
    ∙ c.loop-at.invariant)
