use Rattle.std.proofs.lemmas.Result.{IfOk-from_err}
use Rattle.pr_lens_items.proofs.cut_statements.let_stmt.Goals as goal

pub returns-in_err-value : goal.returns-in_err-value
returns-in_err-value c = let h = c.from_residual.ensures.0 in record { tree = IfOk-from_err _ _ h; passes = IfOk-from_err _ _ h }

pub returns-in_err-target : goal.returns-in_err-target
returns-in_err-target c = let h = c.from_residual-in_err-target.ensures.0 in record { tree = IfOk-from_err _ _ h; passes = IfOk-from_err _ _ h }
