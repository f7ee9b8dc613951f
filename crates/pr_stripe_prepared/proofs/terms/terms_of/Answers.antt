use Rattle.std.proofs.Common.{◌+◌, ◌*◌, ◌≤◌, All, subst, get_or, bit_or, sym, ap, ◌∙◌, arith}
use Rattle.std.proofs.lemmas.List.Elements.{All-push}
use Rattle.pr_stripe_prepared.specs.declared.stages.Term.{Term}
use Rattle.pr_stripe_prepared.specs.Gather.{with_terms, looked}
use Rattle.pr_stripe_prepared.proofs.TermLaws.{with_more, block_more, block_without}
use Rattle.pr_stripe_prepared.proofs.terms.terms_of.Goals as goal
use Rattle.pr_stripe_prepared.proofs.terms.terms_of.Goals.{then-is_any+in_ok-push, else-is_any}

pub loop-block-preserved : goal.loop-block-preserved
loop-block-preserved c = elim c.if-is_any.branch [
  | then-is_any+in_ok-push w ↦ rw (w.terms-is) (record {
    inside = subst (λ xs. All (λ (t : Term). t.from + 16 ≤ c.args.blocks * 16) xs) (sym w.in_ok-push.ensures.items) (All-push (λ (t : Term). t.from + 16 ≤ c.args.blocks * 16) c.loop-block.terms.items _ c.loop-block.invariant.inside (omega arith));
    gives = λ k x row l.
        ap (with_terms k row x) w.in_ok-push.ensures.items ∙ with_more k row x c.loop-block.terms.items _
        ∙ ap (λ y. bit_or y (looked (get_or c.picks_in-picks.result k 0) (c.loop-block.block * 16) row)) (c.loop-block.invariant.gives k x row l)
        ∙ block_more (get_or c.args.places.now k 0) c.loop-block.block x (get_or c.picks_in-picks.result k 0) row (c.picks_in-picks.ensures.picks k l);
  })
  | else-is_any w ↦ rw (w.terms-is) (record {
    inside = c.loop-block.invariant.inside;
    gives = λ k x row l. c.loop-block.invariant.gives k x row l ∙ block_without (get_or c.args.places.now k 0) c.loop-block.block x _ row (c.picks_in-picks.ensures.picks k l) (c.is_any.ensures w.if-is_any.false k l);
  })
]
