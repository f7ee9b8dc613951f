use Rattle.std.proofs.Common.{arith}
use Rattle.std.proofs.lemmas.Grind.{common_steps}
use Rattle.std.proofs.lemmas.Result.{IfOk-from_err}
use Rattle.pr_machine.proofs.buffers.first_states.Goals as goal

pub loop-stage-preserved : goal.loop-stage-preserved
loop-stage-preserved g c = grind (arith, common_steps)

pub returns-in_err-append_states : goal.returns-in_err-append_states
returns-in_err-append_states g c = IfOk-from_err _ _ c.from_residual.ensures.0
