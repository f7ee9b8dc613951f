use Rattle.std.proofs.lemmas.Result.{on_ok_weaker}
use Rattle.pr_parse_print.proofs.Puts.{word_put}
use Rattle.pr_parse_print.proofs.items.put_param.Goals as goal

pub returns : goal.returns
returns c = on_ok_weaker c.put_width.result (λ h. word_put c.in_ok-put_name.ensures h) c.put_width.ensures
