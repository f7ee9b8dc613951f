use Rattle.std.proofs.Common.{◌∙◌}
use Rattle.pr_machine.proofs.Events.{ready_count}
use Rattle.pr_machine.proofs.machine.Machine+N+P+Running.waiting_out.Goals as goal

pub returns-clause-told : goal.returns-clause-told
returns-clause-told g c = λ k p h st. c.len.ensures.count ∙ ready_count c.args.self.now.parts k p h st
