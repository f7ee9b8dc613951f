use Rattle.std.proofs.lemmas.Result.{IfOk-from_err}
use Rattle.pr_cut_cells.proofs.chains.closed_chain.Goals as goal

pub returns-in_err-slices : goal.returns-in_err-slices
returns-in_err-slices c = let h = c.from_residual.ensures.0 in record { grows = IfOk-from_err _ _ h; units = IfOk-from_err _ _ h; slices = IfOk-from_err _ _ h }

pub returns-in_err-push : goal.returns-in_err-push
returns-in_err-push c = let h = c.from_residual-in_err-push.ensures.0 in record { grows = IfOk-from_err _ _ h; units = IfOk-from_err _ _ h; slices = IfOk-from_err _ _ h }

pub returns-in_err-append_chain : goal.returns-in_err-append_chain
returns-in_err-append_chain c = let h = c.from_residual-in_err-append_chain.ensures.0 in record { grows = IfOk-from_err _ _ h; units = IfOk-from_err _ _ h; slices = IfOk-from_err _ _ h }
