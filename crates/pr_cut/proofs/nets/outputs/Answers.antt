use Rattle.std.proofs.Common.{arith}
use Rattle.std.proofs.lemmas.Grind.{common_steps}
use Rattle.std.proofs.lemmas.Result.{IfOk-from_err}
use Rattle.pr_cut.specs.Sources.{plan_in}
use Rattle.pr_cut.proofs.StepLemmas.{ready_at}
use Rattle.pr_cut.proofs.nets.outputs.Goals as goal

pub operand_slices-requires-clause-named : goal.operand_slices-requires-clause-named
operand_slices-requires-clause-named c = (ready_at (plan_in c.args.source.now) c.args.values.now c.args.source.now.flat.now.outputs.items c.loop-i.i c.index-output.result.now c.requires.ready (omega (arith, c.loop-i-test.true, c.len-i-end.ensures, c.args.source.now.flat.now.outputs.ok.0)) c.index-output.ensures).named

pub returns-in_err-slices : goal.returns-in_err-slices
returns-in_err-slices c = IfOk-from_err _ _ c.from_residual.ensures.0

pub returns-in_err-push : goal.returns-in_err-push
returns-in_err-push c = IfOk-from_err _ _ c.from_residual-in_err-push.ensures.0

pub loop-i-preserved : goal.loop-i-preserved
loop-i-preserved c = grind (arith, common_steps)
