use Rattle.std.proofs.lemmas.Result.{IfOk-from_err}
use Rattle.pr_cut_cells.proofs.chains.chain.Goals as goal

pub returns-in_err-slices-clause-grows : goal.returns-in_err-slices-clause-grows
returns-in_err-slices-clause-grows c = IfOk-from_err _ _ c.from_residual.ensures.0

pub returns-in_err-slices-clause-units : goal.returns-in_err-slices-clause-units
returns-in_err-slices-clause-units c = IfOk-from_err _ _ c.from_residual.ensures.0

pub returns-in_err-slices-clause-slices : goal.returns-in_err-slices-clause-slices
returns-in_err-slices-clause-slices c = IfOk-from_err _ _ c.from_residual.ensures.0

pub returns-in_err-append_chain-clause-grows : goal.returns-in_err-append_chain-clause-grows
returns-in_err-append_chain-clause-grows c = IfOk-from_err _ _ c.from_residual-in_err-append_chain.ensures.0

pub returns-in_err-append_chain-clause-units : goal.returns-in_err-append_chain-clause-units
returns-in_err-append_chain-clause-units c = IfOk-from_err _ _ c.from_residual-in_err-append_chain.ensures.0

pub returns-in_err-append_chain-clause-slices : goal.returns-in_err-append_chain-clause-slices
returns-in_err-append_chain-clause-slices c = IfOk-from_err _ _ c.from_residual-in_err-append_chain.ensures.0
