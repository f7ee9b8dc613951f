use Rattle.std.proofs.Common.{arith}
use Rattle.pr_code_show.proofs.LineLemmas.{lines_more, lines_done}
use Rattle.pr_code_show.proofs.lines.put_stages.Goals as goal

pub loop-number-preserved : goal.loop-number-preserved
loop-number-preserved g c = rw c.in_ok-put_stage.ensures (lines_more c.loop-number.text.items _ c.args.stages.now c.loop-number.number c.index-stages-number.result _ c.loop-number-test.true c.index-stages-number.is c.loop-number.invariant)

pub returns : goal.returns
returns g c = lines_done c.loop-number.text.items _ c.args.stages.now c.loop-number.number (omega arith) c.loop-number.invariant
