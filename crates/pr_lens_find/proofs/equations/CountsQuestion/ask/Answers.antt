use Rattle.std.proofs.lemmas.Result.{IfOk-weaker}
use Rattle.pr_lens_find.proofs.equations.CountsQuestion.ask.Goals as goal

pub returns-clause-when_no : goal.returns-clause-when_no
returns-clause-when_no c = IfOk-weaker c.has_more.result _ _ (λ answer is no some. is no) c.has_more.ensures.few
