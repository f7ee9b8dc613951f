use Rattle.std.proofs.lemmas.Result.{IfOk-from_err}
use Rattle.pr_lens_items.proofs.cut_expressions.sliced.Goals as goal

pub returns-in_err-high : goal.returns-in_err-high
returns-in_err-high c = let h = c.from_residual.ensures.0 in record { tree = IfOk-from_err _ _ h; from = IfOk-from_err _ _ h }

pub returns-in_err-low : goal.returns-in_err-low
returns-in_err-low c = let h = c.from_residual-in_err-low.ensures.0 in record { tree = IfOk-from_err _ _ h; from = IfOk-from_err _ _ h }

pub returns-in_err-bounds : goal.returns-in_err-bounds
returns-in_err-bounds c = let h = c.from_residual-in_err-bounds.ensures.0 in record { tree = IfOk-from_err _ _ h; from = IfOk-from_err _ _ h }

pub returns-in_err-new : goal.returns-in_err-new
returns-in_err-new c = let h = c.from_residual-in_err-new.ensures.0 in record { tree = IfOk-from_err _ _ h; from = IfOk-from_err _ _ h }
