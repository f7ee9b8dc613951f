use Rattle.std.proofs.Common.{ap}
use Rattle.std.proofs.lemmas.Result.{on_ok_weaker}
use Rattle.pr_lang.specs.Shape.{index_shape}
use Rattle.pr_parse_print.proofs.Puts.{word_put, shaped}
use Rattle.pr_parse_print.proofs.fixed.put_target.Goals as goal

pub returns-in-Some : goal.returns-in-Some
returns-in-Some c = on_ok_weaker c.put_index.result (λ h. word_put c.in_ok-put_name.ensures (shaped (ap index_shape c.in-Some.is) h)) c.put_index.ensures
