use Rattle.std.proofs.Common.{◌-◌, length}
use Rattle.pr_stripe_prepared.proofs.steps.first_step.Goals as goal

pub returns-then-bus-le112 : goal.returns-then-bus-le112
returns-then-bus-le112 c = c.take_wide.ensures c.args.bus.now (112 - length c.args.bus.now) c.pad.ensures.bytes
