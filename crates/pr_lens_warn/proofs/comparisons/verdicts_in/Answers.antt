use Rattle.std.proofs.lemmas.Result.{IfOk-weaker}
use Rattle.pr_lens_warn.proofs.WarningLemmas.{verdicts_read}
use Rattle.pr_lens_warn.proofs.comparisons.verdicts_in.Goals as goal

pub returns-in-Ok : goal.returns-in-Ok
returns-in-Ok c = IfOk-weaker c.verdicts_of.result _ _ (λ v h. verdicts_read c.args.text.now c.in-Ok.program v.items c.in-Ok.ensures.program h) c.verdicts_of.ensures
