use Rattle.std.proofs.lemmas.Result.{IfOk-from_err}
use Rattle.pr_cut_cells.proofs.chains.append_chain.Goals as goal

pub returns-in_err-with_capacity-clause-grows : goal.returns-in_err-with_capacity-clause-grows
returns-in_err-with_capacity-clause-grows c = IfOk-from_err _ _ c.from_residual.ensures.0

pub returns-in_err-with_capacity-clause-units : goal.returns-in_err-with_capacity-clause-units
returns-in_err-with_capacity-clause-units c = IfOk-from_err _ _ c.from_residual.ensures.0

pub returns-in_err-open-clause-grows : goal.returns-in_err-open-clause-grows
returns-in_err-open-clause-grows c = IfOk-from_err _ _ c.from_residual-in_err-open.ensures.0

pub returns-in_err-open-clause-units : goal.returns-in_err-open-clause-units
returns-in_err-open-clause-units c = IfOk-from_err _ _ c.from_residual-in_err-open.ensures.0

pub returns-in_err-extend_from_slice-clause-grows : goal.returns-in_err-extend_from_slice-clause-grows
returns-in_err-extend_from_slice-clause-grows c = IfOk-from_err _ _ c.from_residual-in_err-extend_from_slice.ensures.0

pub returns-in_err-extend_from_slice-clause-units : goal.returns-in_err-extend_from_slice-clause-units
returns-in_err-extend_from_slice-clause-units c = IfOk-from_err _ _ c.from_residual-in_err-extend_from_slice.ensures.0

pub returns-in_err-push-clause-grows : goal.returns-in_err-push-clause-grows
returns-in_err-push-clause-grows c = IfOk-from_err _ _ c.from_residual-in_err-push.ensures.0

pub returns-in_err-push-clause-units : goal.returns-in_err-push-clause-units
returns-in_err-push-clause-units c = IfOk-from_err _ _ c.from_residual-in_err-push.ensures.0
