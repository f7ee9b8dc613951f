use Rattle.std.proofs.lemmas.Result.{IfOk-from_err}
use Rattle.pr_lens_items.proofs.cut_expressions.go_back.Goals as goal

pub returns-in_err-back : goal.returns-in_err-back
returns-in_err-back c = let h = c.from_residual.ensures.0 in record { tree = IfOk-from_err _ _ h; from = IfOk-from_err _ _ h }

pub returns-in_err-next : goal.returns-in_err-next
returns-in_err-next c = let h = c.from_residual-in_err-next.ensures.0 in record { tree = IfOk-from_err _ _ h; from = IfOk-from_err _ _ h }

pub returns-in_err-back-2 : goal.returns-in_err-back-2
returns-in_err-back-2 c = let h = c.from_residual-in_err-back-2.ensures.0 in record { tree = IfOk-from_err _ _ h; from = IfOk-from_err _ _ h }
