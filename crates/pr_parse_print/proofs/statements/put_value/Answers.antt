use Rattle.std.proofs.lemmas.Result.{on_ok_weaker}
use Rattle.pr_parse_print.proofs.Puts.{then_put, word_put}
use Rattle.pr_parse_print.proofs.statements.put_value.Goals as goal

pub returns : goal.returns
returns c = on_ok_weaker c.put_symbol-2.result (λ h. word_put c.in_ok-put_symbol.ensures (then_put c.in_ok-put_expr.ensures h)) c.put_symbol-2.ensures
