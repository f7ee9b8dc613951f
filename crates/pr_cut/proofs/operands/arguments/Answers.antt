use Rattle.std.proofs.Common.{arith}
use Rattle.std.proofs.lemmas.Result.{IfOk-from_err}
use Rattle.pr_cut.specs.Sources.{plan_in}
use Rattle.pr_cut.proofs.StepLemmas.{ready_at}
use Rattle.pr_cut.proofs.operands.arguments.Goals as goal

pub argument-requires-clause-ready : goal.argument-requires-clause-ready
argument-requires-clause-ready c = ready_at (plan_in c.args.source.now) c.args.values.now c.args.equation.now.args.items c.loop-i.i c.index.result.now c.requires.ready (omega (arith, c.loop-i-test.true, c.len-i-end.ensures, c.args.equation.now.args.ok.0)) c.index.ensures

pub returns-in_err-all : goal.returns-in_err-all
returns-in_err-all c = IfOk-from_err _ _ c.from_residual.ensures.0

pub returns-in_err-argument : goal.returns-in_err-argument
returns-in_err-argument c = IfOk-from_err _ _ c.from_residual-in_err-argument.ensures.0

pub returns-in_err-push : goal.returns-in_err-push
returns-in_err-push c = IfOk-from_err _ _ c.from_residual-in_err-push.ensures.0
