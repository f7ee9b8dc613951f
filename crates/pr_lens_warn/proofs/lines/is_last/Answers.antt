use Rattle.std.proofs.Common.{◌∙◌, ℕ, Option, length, sym, ap}
use Rattle.std.specs.Prelude.{is_none}
use Rattle.pr_lens_source.proofs.RangeLemmas.{first_none, first_here, first_later}
use Rattle.pr_lens_warn.specs.Lines.{is_again, is_last}
use Rattle.pr_lens_warn.proofs.lines.is_last.Goals as goal

pub returns-then-is_again : goal.returns-then-is_again
unfolding is_last
returns-then-is_again c =
    let source = c.args.source.now in
    let test = is_again source.text.now source.tokens.now source.spans.now c.args.at in
    let here = first_here test c.loop-later.later (length source.tokens.now) c.loop-later-test.true (sym c.is_again.ensures ∙ c.if-is_again.true) in
    ap (λ (o : Option ℕ). is_none o) (sym here ∙ c.loop-later.invariant)

pub loop-later-preserved : goal.loop-later-preserved
loop-later-preserved c =
    let source = c.args.source.now in
    let test = is_again source.text.now source.tokens.now source.spans.now c.args.at in
    sym (first_later test c.loop-later.later (length source.tokens.now) c.loop-later-test.true (sym c.is_again.ensures ∙ c.if-is_again.false)) ∙ c.loop-later.invariant

pub returns : goal.returns
unfolding is_last
returns c =
    let source = c.args.source.now in
    let test = is_again source.text.now source.tokens.now source.spans.now c.args.at in
    ap (λ (o : Option ℕ). is_none o) (sym (first_none test c.loop-later.later (length source.tokens.now) c.loop-later-test.false) ∙ c.loop-later.invariant)
