use Rattle.std.proofs.Common.{◌∙◌, sym, ap, arith}
use Rattle.pr_lens_source.specs.Kinds.{is_semi}
use Rattle.pr_lens_names.specs.Instances.{is_target_word}
use Rattle.pr_lens_names.proofs.InstanceLemmas.{target_ends, target_here, target_before, target_none}
use Rattle.pr_lens_names.proofs.instances.target_around.Goals as goal

pub returns-then-is_semi : goal.returns-then-is_semi
returns-then-is_semi c =
    target_ends c.args.source.now.tokens.now c.args.token c.loop-at.at c.loop-at-test.true c.loop-at.invariant.rest
    (ap is_semi (sym c.kind-kind.ensures) ∙ (sym c.is_semi.ensures ∙ c.if-is_semi.true))

pub returns-then-is_target_word : goal.returns-then-is_target_word
returns-then-is_target_word c =
    target_here c.args.source.now.tokens.now c.args.token c.loop-at.at c.loop-at-test.true c.loop-at.invariant.rest
    (ap is_semi (sym c.kind-kind.ensures) ∙ (sym c.is_semi.ensures ∙ c.if-is_semi.false))
    (ap is_target_word (sym c.kind-kind.ensures) ∙ (sym c.is_target_word.ensures ∙ c.if-is_target_word.true))

pub loop-at-preserved : goal.loop-at-preserved
loop-at-preserved c = record {
  within = omega arith;
  rest =
      target_before c.args.source.now.tokens.now c.args.token c.loop-at.at c.loop-at-test.true c.loop-at.invariant.rest
      (ap is_semi (sym c.kind-kind.ensures) ∙ (sym c.is_semi.ensures ∙ c.if-is_semi.false))
      (ap is_target_word (sym c.kind-kind.ensures) ∙ (sym c.is_target_word.ensures ∙ c.if-is_target_word.false));
}

pub returns : goal.returns
returns c = target_none c.args.source.now.tokens.now c.args.token c.loop-at.at c.loop-at-test.false c.loop-at.invariant.rest
