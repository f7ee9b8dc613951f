use Rattle.std.proofs.Common.{arith, subst}
use Rattle.pr_control.specs.Time.{IsResident}
use Rattle.pr_machine.proofs.Stored.{stored_past, stored_held, stored_row}
use Rattle.pr_machine.proofs.machine.Machine+N+P+Running.stored.Goals as goal

pub returns-then-stage-stages-clause-stored : goal.returns-then-stage-stages-clause-stored
returns-then-stage-stages-clause-stored g c = λ k p h st. stored_past c.args.self.now.parts k p h st c.args.stage (omega (arith, c.stages.ensures))

pub returns-then-resident-clause-stored : goal.returns-then-resident-clause-stored
returns-then-resident-clause-stored g c =
    let plan = c.args.self.now.parts.plan in
    λ k p h st. stored_held c.args.self.now.parts k p h st c.args.stage (subst (IsResident plan.stages plan.stripes plan.time c.args.stage) c.if-resident.true c.resident.ensures)

pub returns-clause-stored : goal.returns-clause-stored
returns-clause-stored g c =
    let plan = c.args.self.now.parts.plan in
    λ k p h st. stored_row c.args.self.now.parts k p h st c.args.stage c.row.result.now (omega (arith, c.stages.ensures)) (subst (IsResident plan.stages plan.stripes plan.time c.args.stage) c.if-resident.false c.resident.ensures) c.row.ensures.row
