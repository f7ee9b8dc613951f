use Rattle.std.proofs.Common.{◌∙◌}
use Rattle.std.proofs.lemmas.Result.{on_ok_weaker}
use Rattle.pr_parse_print.proofs.Puts.{one_put}
use Rattle.pr_parse_print.proofs.words.put_symbol.Goals as goal

pub returns : goal.returns
returns c = on_ok_weaker c.put_bytes.result (λ h. one_put h (c.as_bytes.ensures.value ∙ c.as_str.ensures)) c.put_bytes.ensures
