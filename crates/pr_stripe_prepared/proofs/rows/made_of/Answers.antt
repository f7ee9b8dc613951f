use Rattle.std.proofs.Common.{◌∙◌, subst, arith}
use Rattle.std.proofs.lemmas.List.{length-set, get_or_default}
use Rattle.pr_stripe_prepared.proofs.RowLaws.{lane_more}
use Rattle.pr_stripe_prepared.proofs.rows.made_of.Goals as goal

pub loop-k-preserved : goal.loop-k-preserved
loop-k-preserved g c = record {
  long = length-set c.loop-k.row c.loop-k.k c.f.result ∙ c.loop-k.invariant.long;
  each = lane_more (λ j x r. goal.F-post g c.args.f j x r) c.args.items.now c.loop-k.row c.loop-k.k c.f.result (omega (arith, c.loop-k.invariant.long))
      (λ d. subst (λ x. goal.F-post g c.args.f c.loop-k.k x c.f.result) (c.index-items-k.is ∙ get_or_default c.args.items.now c.loop-k.k c.index-items-k.result d (omega arith)) c.f.ensures)
      c.loop-k.invariant.each;
}
