use Rattle.std.proofs.lemmas.Result.{IfOk-from_err}
use Rattle.pr_expand.specs.Code.{made_of}
use Rattle.pr_expand.proofs.Limits.{beside_within, passed_on}
use Rattle.pr_expand.proofs.operands.beside_all.Goals as goal

pub returns-in_err-above-clause-limit : goal.returns-in_err-above-clause-limit
returns-in_err-above-clause-limit c =
    passed_on c.from_residual.result c.in_err-above.field-0.0 _ _ c.from_residual.ensures.1
    (beside_within (made_of c.loop-part.above) c.args.parts.now c.loop-part.part-index _ _ c.loop-part-test.true c.loop-part.invariant)
    c.in_err-above.ensures.limit

pub returns-in_err-above-clause-value : goal.returns-in_err-above-clause-value
returns-in_err-above-clause-value c = IfOk-from_err _ _ c.from_residual.ensures.0
