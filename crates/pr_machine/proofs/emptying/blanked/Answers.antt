use Rattle.std.proofs.Common.{ap, ◌∙◌}
use Rattle.pr_machine.proofs.Emptied.{stays}
use Rattle.pr_machine.proofs.emptying.blanked.Goals as goal

pub returns-clause-same : goal.returns-clause-same
returns-clause-same g c =
    stays c.args.store.now c.save.new.store c.args.stage c.retire.result.mark.stage c.arm.result.state.items c.retire.result.state.items c.arm.ensures.state c.save.ensures.store (c.retire.ensures.stage ∙ c.arm.ensures.stage) (ap (λ v. v.items) c.retire.ensures.state)
