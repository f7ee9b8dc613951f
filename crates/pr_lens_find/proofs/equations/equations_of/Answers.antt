use Rattle.std.proofs.lemmas.Result.{IfOk-weaker}
use Rattle.pr_lens_find.proofs.MadeLemmas.{made_with_ends, unlawful}
use Rattle.pr_lens_find.proofs.equations.equations_of.Goals as goal

pub returns-in-Ok : goal.returns-in-Ok
returns-in-Ok c =
    IfOk-weaker c.made_of.result _ _ (λ m is. made_with_ends c.args.program c.in_ok-ended.ended c.in-Ok.scoped.program m c.in-Ok.ensures.ok c.in_ok-ended.ensures c.in-Ok.scoped.lawful is) c.made_of.ensures

pub returns-in-Err-Scope : goal.returns-in-Err-Scope
returns-in-Err-Scope c = unlawful c.args.program c.in_ok-ended.ended _ c.in_ok-ended.ensures (rw c.in-Err-Scope.field-0-is at c.in-Err-Scope.ensures.err)

pub returns-in-Err-Limit : goal.returns-in-Err-Limit
returns-in-Err-Limit c = unlawful c.args.program c.in_ok-ended.ended _ c.in_ok-ended.ensures ((rw c.in-Err-Limit.field-0-is at c.in-Err-Limit.ensures.err).1)
