use Rattle.std.proofs.lemmas.Result.{IfOk-from_err}
use Rattle.pr_cut_cells.proofs.chains.begun.Goals as goal

pub returns-in_err-cells-in-ByBit : goal.returns-in_err-cells-in-ByBit
returns-in_err-cells-in-ByBit c = let h = c.from_residual.ensures.0 in record { cells = IfOk-from_err _ _ h; few = IfOk-from_err _ _ h }

pub returns-in_err-push-in-ByBit : goal.returns-in_err-push-in-ByBit
returns-in_err-push-in-ByBit c = let h = c.from_residual-in_err-push-in-ByBit.ensures.0 in record { cells = IfOk-from_err _ _ h; few = IfOk-from_err _ _ h }

pub returns-in_err-cells-in-ByEntry : goal.returns-in_err-cells-in-ByEntry
returns-in_err-cells-in-ByEntry c = let h = c.from_residual-in_err-cells-in-ByEntry.ensures.0 in record { cells = IfOk-from_err _ _ h; few = IfOk-from_err _ _ h }

pub returns-in_err-push-in-ByEntry : goal.returns-in_err-push-in-ByEntry
returns-in_err-push-in-ByEntry c = let h = c.from_residual-in_err-push-in-ByEntry.ensures.0 in record { cells = IfOk-from_err _ _ h; few = IfOk-from_err _ _ h }

pub returns-in_err-push-in-ByEntry-2 : goal.returns-in_err-push-in-ByEntry-2
returns-in_err-push-in-ByEntry-2 c = let h = c.from_residual-in_err-push-in-ByEntry-2.ensures.0 in record { cells = IfOk-from_err _ _ h; few = IfOk-from_err _ _ h }
