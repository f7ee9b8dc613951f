use Rattle.std.proofs.lemmas.Result.{IfOk-weaker}
use Rattle.pr_lens_fits.proofs.units.CrowdsQuestion.ask.Goals as goal

pub returns-clause-when_no : goal.returns-clause-when_no
returns-clause-when_no c = IfOk-weaker c.has_many_before.result _ _ (λ answer is no some. is no) c.has_many_before.ensures.few
