use Rattle.std.proofs.Common.{arith, ◌∙◌}
use Rattle.pr_run.proofs.Bytes.{sample_step}
use Rattle.pr_run.proofs.feeding.put_sample.Goals as goal

pub loop-i-preserved : goal.loop-i-preserved
loop-i-preserved c =
    let l = c.loop-i in
    let step = sample_step l.into c.put_number.new.into c.args.widths.now c.args.numbers.now l.at l.i c.slices.result l.invariant.done l.invariant.left (omega (arith, c.requires.room, l.invariant.size)) (omega arith) c.requires.numbers (omega (arith, c.slices.ensures)) c.put_number.ensures in
    record { done = step.done; left = step.left; size = step.size ∙ l.invariant.size }
