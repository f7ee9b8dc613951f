use Rattle.std.proofs.lemmas.Result.{IfOk-from_err, on_ok_weaker}
use Rattle.pr_parse_print.proofs.Puts.{then_put, word_put, table_put}
use Rattle.pr_parse_print.proofs.items.put_table.Goals as goal

pub returns : goal.returns
returns c = on_ok_weaker c.put_symbol-4.result (λ h. then_put c.in_ok-put_named.ensures (word_put c.in_ok-put_symbol.ensures (table_put c.in_ok-put_symbol-2.ensures c.in_ok-put_fixed_list.ensures c.in_ok-put_symbol-3.ensures h))) c.put_symbol-4.ensures

pub returns-in_err-put_named : goal.returns-in_err-put_named
returns-in_err-put_named c = IfOk-from_err _ _ c.from_residual.ensures.0

pub returns-in_err-put_symbol : goal.returns-in_err-put_symbol
returns-in_err-put_symbol c = IfOk-from_err _ _ c.from_residual-in_err-put_symbol.ensures.0

pub returns-in_err-put_symbol-2 : goal.returns-in_err-put_symbol-2
returns-in_err-put_symbol-2 c = IfOk-from_err _ _ c.from_residual-in_err-put_symbol-2.ensures.0

pub returns-in_err-put_fixed_list : goal.returns-in_err-put_fixed_list
returns-in_err-put_fixed_list c = IfOk-from_err _ _ c.from_residual-in_err-put_fixed_list.ensures.0

pub returns-in_err-put_symbol-3 : goal.returns-in_err-put_symbol-3
returns-in_err-put_symbol-3 c = IfOk-from_err _ _ c.from_residual-in_err-put_symbol-3.ensures.0
