use Rattle.std.proofs.lemmas.Result.{IfOk-from_err}
use Rattle.pr_lens_items.proofs.cut_expressions.slice.Goals as goal

pub returns-in_err-high : goal.returns-in_err-high
returns-in_err-high c = let h = c.from_residual.ensures.0 in record { tree = IfOk-from_err _ _ h; from = IfOk-from_err _ _ h }

pub returns-in_err-high-2 : goal.returns-in_err-high-2
returns-in_err-high-2 c = let h = c.from_residual-in_err-high-2.ensures.0 in record { tree = IfOk-from_err _ _ h; from = IfOk-from_err _ _ h }

pub returns-in_err-low : goal.returns-in_err-low
returns-in_err-low c = let h = c.from_residual-in_err-low.ensures.0 in record { tree = IfOk-from_err _ _ h; from = IfOk-from_err _ _ h }
