use Rattle.std.proofs.lemmas.Result.{on_ok_weaker}
use Rattle.pr_parse_print.proofs.Puts.{word_put}
use Rattle.pr_parse_print.proofs.words.put_named.Goals as goal

pub returns : goal.returns
returns c = on_ok_weaker c.put_name.result (λ h. word_put c.in_ok-put_keyword.ensures h) c.put_name.ensures
