use Rattle.std.proofs.lemmas.Result.{IfOk-from_err}
use Rattle.pr_cutmul.proofs.products.product_row.Goals as goal

pub returns-in_err-cells-clause-grows : goal.returns-in_err-cells-clause-grows
returns-in_err-cells-clause-grows c = IfOk-from_err _ _ c.from_residual.ensures.0

pub returns-in_err-cells-clause-units : goal.returns-in_err-cells-clause-units
returns-in_err-cells-clause-units c = IfOk-from_err _ _ c.from_residual.ensures.0

pub returns-in_err-cells-clause-slices : goal.returns-in_err-cells-clause-slices
returns-in_err-cells-clause-slices c = IfOk-from_err _ _ c.from_residual.ensures.0

pub returns-in_err-high-clause-grows : goal.returns-in_err-high-clause-grows
returns-in_err-high-clause-grows c = IfOk-from_err _ _ c.from_residual-in_err-high.ensures.0

pub returns-in_err-high-clause-units : goal.returns-in_err-high-clause-units
returns-in_err-high-clause-units c = IfOk-from_err _ _ c.from_residual-in_err-high.ensures.0

pub returns-in_err-high-clause-slices : goal.returns-in_err-high-clause-slices
returns-in_err-high-clause-slices c = IfOk-from_err _ _ c.from_residual-in_err-high.ensures.0
