use Rattle.std.proofs.Common.{◌∙◌}
use Rattle.pr_machine.proofs.Cycles.{held_told}
use Rattle.pr_machine.proofs.loaded.Loaded.is_held.Goals as goal

pub returns : goal.returns
returns g c = λ k p h st. c.is_stalled.ensures ∙ held_told c.args.self.now k p h st c.args.schedule.now c.requires c.deref.result.now c.stages.result c.len.result c.len-2.result c.may_enter-entering.result c.deref.ensures.value c.stages.ensures c.len.ensures.count c.len-2.ensures.count c.may_enter-entering.ensures
