use Rattle.std.proofs.Common.{◌-◌, sym, length}
use Rattle.std.proofs.lemmas.List.{append-nil}
use Rattle.pr_stripe_prepared.proofs.steps.StageStep.take_far.Goals as goal

pub returns : goal.returns
returns c = c.take_wide-2.ensures c.args.bus.now 0 (sym (append-nil c.args.bus.now))

pub returns-then-bus-lt240 : goal.returns-then-bus-lt240
returns-then-bus-lt240 c = c.take_wide.ensures c.args.bus.now (240 - length c.args.bus.now) c.pad.ensures.bytes
