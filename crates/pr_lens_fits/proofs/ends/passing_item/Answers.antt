use Rattle.std.proofs.Common.{length}
use Rattle.pr_lens_fits.specs.Ends.{amount_of}
use Rattle.pr_lens_fits.proofs.EndLemmas.{passes_here, together_more}
use Rattle.pr_lens_fits.proofs.ends.passing_item.Goals as goal

pub returns-then-sum-most-clause-first : goal.returns-then-sum-most-clause-first
returns-then-sum-most-clause-first c =
    let source = c.args.source.now in
    passes_here (amount_of c.args.counted source.tokens.now source.spans.now) c.args.most (length source.spans.now) c.loop-item.item c.loop-item.sum c.amount.result c.saturating_add-sum.result
    c.loop-item-test.true c.loop-item.invariant.sum c.loop-item.invariant.few c.amount.ensures.amount c.saturating_add-sum.ensures c.if-sum-most.true

pub loop-item-preserved : goal.loop-item-preserved
loop-item-preserved c = record {
  sum =
      together_more (amount_of c.args.counted c.args.source.now.tokens.now c.args.source.now.spans.now) c.loop-item.item c.loop-item.sum c.amount.result c.saturating_add-sum.result
      c.loop-item.invariant.sum c.amount.ensures.amount c.saturating_add-sum.ensures;
  few = c.if-sum-most.false;
}
