use Rattle.pr_lens_cost.proofs.TextLemmas.{fullest_keeps, fullest_takes}
use Rattle.pr_lens_cost.proofs.tables.fullest.Goals as goal
use Rattle.pr_lens_cost.proofs.tables.fullest.Goals.{then-stage-most, else-stage-most}

pub loop-at-preserved : goal.loop-at-preserved
loop-at-preserved c =
    let at = c.loop-at in
    elim c.if-stage-most.branch [
      | then-stage-most w ↦ rw (w.number-is, w.most-is) (fullest_takes c.args.stages.now at.at at.number at.most c.loop-at-test.true at.invariant w.if-stage-most.true)
      | else-stage-most w ↦ rw (w.number-is, w.most-is) (fullest_keeps c.args.stages.now at.at at.number at.most c.loop-at-test.true at.invariant w.if-stage-most.false)
    ]
