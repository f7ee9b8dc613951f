use Rattle.std.proofs.lemmas.Result.{IfOk-from_err}
use Rattle.pr_expand.proofs.Between.{scene_inside}
use Rattle.pr_expand.proofs.items.step_item.Goals as goal

pub make_stmt-requires : goal.make_stmt-requires
make_stmt-requires c = scene_inside c.args.items.now c.args.world.statics c.enter-frame.new.self c.args.number c.requires c.enter-frame.ensures.known c.enter-frame.ensures.entries c.enter-frame.ensures.inside

pub returns-in_err-progress-clause-progress : goal.returns-in_err-progress-clause-progress
returns-in_err-progress-clause-progress c = IfOk-from_err _ _ c.from_residual.ensures.0

pub returns-in_err-progress-clause-outputs : goal.returns-in_err-progress-clause-outputs
returns-in_err-progress-clause-outputs c = IfOk-from_err _ _ c.from_residual.ensures.0

pub returns-in_err-progress-clause-names : goal.returns-in_err-progress-clause-names
returns-in_err-progress-clause-names c = IfOk-from_err _ _ c.from_residual.ensures.0
