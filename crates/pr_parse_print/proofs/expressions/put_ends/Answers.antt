use Rattle.std.proofs.lemmas.Result.{IfOk-from_err, on_ok_weaker}
use Rattle.pr_parse_print.proofs.Puts.{then_put, word_put}
use Rattle.pr_parse_print.proofs.expressions.put_ends.Goals as goal

pub returns : goal.returns
returns c = on_ok_weaker c.put_symbol-3.result (λ h. word_put c.in_ok-put_symbol.ensures (then_put c.in_ok-put_fixed.ensures (word_put c.in_ok-put_symbol-2.ensures (then_put c.in_ok-put_fixed-2.ensures h)))) c.put_symbol-3.ensures

pub returns-in_err-put_symbol : goal.returns-in_err-put_symbol
returns-in_err-put_symbol c = IfOk-from_err _ _ c.from_residual.ensures.0

pub returns-in_err-put_fixed : goal.returns-in_err-put_fixed
returns-in_err-put_fixed c = IfOk-from_err _ _ c.from_residual-in_err-put_fixed.ensures.0

pub returns-in_err-put_symbol-2 : goal.returns-in_err-put_symbol-2
returns-in_err-put_symbol-2 c = IfOk-from_err _ _ c.from_residual-in_err-put_symbol-2.ensures.0

pub returns-in_err-put_fixed-2 : goal.returns-in_err-put_fixed-2
returns-in_err-put_fixed-2 c = IfOk-from_err _ _ c.from_residual-in_err-put_fixed-2.ensures.0
