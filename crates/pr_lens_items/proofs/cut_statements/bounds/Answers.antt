use Rattle.std.proofs.lemmas.Result.{IfOk-from_err}
use Rattle.pr_lens_items.proofs.cut_statements.bounds.Goals as goal

pub returns-in_err-low : goal.returns-in_err-low
returns-in_err-low c = let h = c.from_residual.ensures.0 in record { low = IfOk-from_err _ _ h; high = IfOk-from_err _ _ h }

pub returns-in_err-high : goal.returns-in_err-high
returns-in_err-high c = let h = c.from_residual-in_err-high.ensures.0 in record { low = IfOk-from_err _ _ h; high = IfOk-from_err _ _ h }
