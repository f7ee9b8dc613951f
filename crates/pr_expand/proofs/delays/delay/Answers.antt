use Rattle.pr_expand.specs.Code.{made_of, shapes_in}
use Rattle.pr_expand.proofs.Sharing.{delay_step}
use Rattle.pr_expand.proofs.Limits.{delay_within, passed_on}
use Rattle.pr_expand.proofs.delays.delay.Goals as goal

pub loop-k-preserved : goal.loop-k-preserved
loop-k-preserved c = delay_step c.args.samples c.loop-k._k c.args.init c.loop-k.operand c.args.given.signed (shapes_in c.loop-k.ledger) (made_of c.in_ok-once.once) _ c.loop-k-test.true c.in_ok-once.ensures.value c.loop-k.invariant

pub returns-in_err-once-clause-limit : goal.returns-in_err-once-clause-limit
returns-in_err-once-clause-limit c =
    passed_on c.from_residual.result c.in_err-once.field-0.0 _ _ c.from_residual.ensures.1
    (delay_within c.args.samples c.loop-k._k c.args.init c.loop-k.operand c.args.given.signed (shapes_in c.loop-k.ledger) _ c.loop-k-test.true c.loop-k.invariant)
    c.in_err-once.ensures.limit
