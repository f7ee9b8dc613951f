use Rattle.std.proofs.Common.{ap}
use Rattle.std.proofs.lemmas.Result.{on_ok_weaker}
use Rattle.pr_lang.specs.Shape.{width_tree}
use Rattle.pr_parse_print.proofs.Puts.{no_put, word_put, shaped}
use Rattle.pr_parse_print.proofs.fixed.put_width.Goals as goal

pub returns-in_ok-put_symbol-in-Some : goal.returns-in_ok-put_symbol-in-Some
returns-in_ok-put_symbol-in-Some c = on_ok_weaker c.put_number.result (λ h. shaped (ap width_tree c.in-Some.is) (word_put c.in_ok-put_symbol-in-Some.ensures h)) c.put_number.ensures

pub returns-in-None : goal.returns-in-None
returns-in-None c = shaped (ap width_tree c.in-None.is) no_put
