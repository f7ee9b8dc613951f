use Rattle.std.proofs.lemmas.Result.{IfOk-weaker}
use Rattle.pr_lens_find.proofs.walks.WalksQuestion.ask.Goals as goal

pub returns-clause-when_no : goal.returns-clause-when_no
returns-clause-when_no c = IfOk-weaker c.is_too_long.result _ _ (λ answer is no some. is no) c.is_too_long.ensures.short
