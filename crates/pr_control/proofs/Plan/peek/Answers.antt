use Rattle.std.proofs.Common.{arith}
use Rattle.pr_control.proofs.TimeLaws.{peek_line}
use Rattle.pr_control.proofs.Plan.peek.Goals as goal

pub returns-then-self-from : goal.returns-then-self-from
returns-then-self-from c =
    let s = c.args.self.now in
    peek_line s.stages s.stripes s.time s.stage s.stripe (omega arith) (omega (arith, c.if-self-from.true, c.from.ensures)) s.stage_is s.stripe_is
