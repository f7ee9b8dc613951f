use Rattle.std.proofs.lemmas.Result.{IfOk-from_err, on_ok_weaker}
use Rattle.pr_parse_print.proofs.Puts.{then_put, word_put}
use Rattle.pr_parse_print.proofs.items.put_function.Goals as goal

pub returns : goal.returns
returns c = on_ok_weaker c.put_symbol-5.result (λ h. then_put c.in_ok-put_named.ensures (word_put c.in_ok-put_symbol.ensures (then_put c.in_ok-put_params.ensures (word_put c.in_ok-put_symbol-2.ensures (then_put c.in_ok-put_width.ensures (word_put c.in_ok-put_symbol-3.ensures (then_put c.in_ok-put_stmts.ensures (word_put c.in_ok-put_keyword.ensures (then_put c.in_ok-put_expr.ensures (word_put c.in_ok-put_symbol-4.ensures h)))))))))) c.put_symbol-5.ensures

pub returns-in_err-put_named : goal.returns-in_err-put_named
returns-in_err-put_named c = IfOk-from_err _ _ c.from_residual.ensures.0

pub returns-in_err-put_symbol : goal.returns-in_err-put_symbol
returns-in_err-put_symbol c = IfOk-from_err _ _ c.from_residual-in_err-put_symbol.ensures.0

pub returns-in_err-put_params : goal.returns-in_err-put_params
returns-in_err-put_params c = IfOk-from_err _ _ c.from_residual-in_err-put_params.ensures.0

pub returns-in_err-put_symbol-2 : goal.returns-in_err-put_symbol-2
returns-in_err-put_symbol-2 c = IfOk-from_err _ _ c.from_residual-in_err-put_symbol-2.ensures.0

pub returns-in_err-put_width : goal.returns-in_err-put_width
returns-in_err-put_width c = IfOk-from_err _ _ c.from_residual-in_err-put_width.ensures.0

pub returns-in_err-put_symbol-3 : goal.returns-in_err-put_symbol-3
returns-in_err-put_symbol-3 c = IfOk-from_err _ _ c.from_residual-in_err-put_symbol-3.ensures.0

pub returns-in_err-put_stmts : goal.returns-in_err-put_stmts
returns-in_err-put_stmts c = IfOk-from_err _ _ c.from_residual-in_err-put_stmts.ensures.0

pub returns-in_err-put_keyword : goal.returns-in_err-put_keyword
returns-in_err-put_keyword c = IfOk-from_err _ _ c.from_residual-in_err-put_keyword.ensures.0

pub returns-in_err-put_expr : goal.returns-in_err-put_expr
returns-in_err-put_expr c = IfOk-from_err _ _ c.from_residual-in_err-put_expr.ensures.0

pub returns-in_err-put_symbol-4 : goal.returns-in_err-put_symbol-4
returns-in_err-put_symbol-4 c = IfOk-from_err _ _ c.from_residual-in_err-put_symbol-4.ensures.0
