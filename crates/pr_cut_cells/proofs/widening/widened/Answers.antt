use Rattle.std.proofs.lemmas.Result.{IfOk-from_err}
use Rattle.pr_cut_cells.proofs.widening.widened.Goals as goal

pub returns-in_err-cells : goal.returns-in_err-cells
returns-in_err-cells c = let h = c.from_residual.ensures.0 in record { grows = IfOk-from_err _ _ h; units = IfOk-from_err _ _ h; slices = IfOk-from_err _ _ h }

pub returns-in_err-high : goal.returns-in_err-high
returns-in_err-high c = let h = c.from_residual-in_err-high.ensures.0 in record { grows = IfOk-from_err _ _ h; units = IfOk-from_err _ _ h; slices = IfOk-from_err _ _ h }
