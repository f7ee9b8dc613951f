use Rattle.std.proofs.lemmas.Result.{IfOk-from_err}
use Rattle.pr_expand.proofs.Between.{before_new}
use Rattle.pr_expand.proofs.items.introduce.Goals as goal

pub returns-clause-at : goal.returns-clause-at
returns-clause-at c = before_new c.args.items.now c.args.world.statics c.set.new.self c.args.number c.args.name.now c.args.what c.in_ok-set.ensures.entries c.in_ok-set.ensures.indices c.in_ok-set.ensures.horizon c.requires.free c.requires.known c.requires.at

pub returns-in_err-set-clause-at : goal.returns-in_err-set-clause-at
returns-in_err-set-clause-at c = IfOk-from_err _ _ c.from_residual.ensures.0

pub returns-in_err-set-clause-progress : goal.returns-in_err-set-clause-progress
returns-in_err-set-clause-progress c = IfOk-from_err _ _ c.from_residual.ensures.0

pub returns-in_err-set-clause-outputs : goal.returns-in_err-set-clause-outputs
returns-in_err-set-clause-outputs c = IfOk-from_err _ _ c.from_residual.ensures.0
