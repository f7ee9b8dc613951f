use Rattle.std.proofs.lemmas.Result.{IfOk-from_err}
use Rattle.pr_cut_cells.proofs.chains.chain_step.Goals as goal

pub returns-in_err-next-clause-whole : goal.returns-in_err-next-clause-whole
returns-in_err-next-clause-whole c = IfOk-from_err _ _ c.from_residual.ensures.0

pub returns-in_err-next-clause-short : goal.returns-in_err-next-clause-short
returns-in_err-next-clause-short c = IfOk-from_err _ _ c.from_residual.ensures.0

pub returns-in_err-next-clause-grows : goal.returns-in_err-next-clause-grows
returns-in_err-next-clause-grows c = IfOk-from_err _ _ c.from_residual.ensures.0

pub returns-in_err-push-clause-whole : goal.returns-in_err-push-clause-whole
returns-in_err-push-clause-whole c = IfOk-from_err _ _ c.from_residual-in_err-push.ensures.0

pub returns-in_err-push-clause-short : goal.returns-in_err-push-clause-short
returns-in_err-push-clause-short c = IfOk-from_err _ _ c.from_residual-in_err-push.ensures.0

pub returns-in_err-push-clause-grows : goal.returns-in_err-push-clause-grows
returns-in_err-push-clause-grows c = IfOk-from_err _ _ c.from_residual-in_err-push.ensures.0

pub returns-in_err-push-2-clause-whole : goal.returns-in_err-push-2-clause-whole
returns-in_err-push-2-clause-whole c = IfOk-from_err _ _ c.from_residual-in_err-push-2.ensures.0

pub returns-in_err-push-2-clause-short : goal.returns-in_err-push-2-clause-short
returns-in_err-push-2-clause-short c = IfOk-from_err _ _ c.from_residual-in_err-push-2.ensures.0

pub returns-in_err-push-2-clause-grows : goal.returns-in_err-push-2-clause-grows
returns-in_err-push-2-clause-grows c = IfOk-from_err _ _ c.from_residual-in_err-push-2.ensures.0

pub returns-in_err-push-3-clause-whole : goal.returns-in_err-push-3-clause-whole
returns-in_err-push-3-clause-whole c = IfOk-from_err _ _ c.from_residual-in_err-push-3.ensures.0

pub returns-in_err-push-3-clause-short : goal.returns-in_err-push-3-clause-short
returns-in_err-push-3-clause-short c = IfOk-from_err _ _ c.from_residual-in_err-push-3.ensures.0

pub returns-in_err-push-3-clause-grows : goal.returns-in_err-push-3-clause-grows
returns-in_err-push-3-clause-grows c = IfOk-from_err _ _ c.from_residual-in_err-push-3.ensures.0
