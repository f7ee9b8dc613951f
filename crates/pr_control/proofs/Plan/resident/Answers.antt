use Rattle.std.proofs.Common.{arith, ap, ◌∙◌}
use Rattle.pr_control.specs.Time.{back}
use Rattle.pr_control.proofs.Residence.{resident_early, resident_line, resident_ring}
use Rattle.pr_control.proofs.Plan.resident.Goals as goal

pub returns-then-self-from : goal.returns-then-self-from
returns-then-self-from c =
    let s = c.args.self.now in
    resident_early s.stages s.stripes s.time c.args.stage s.some (omega (arith, c.if-self-from.true, c.from.ensures))

pub returns-then-self : goal.returns-then-self
returns-then-self c =
    let s = c.args.self.now in
    resident_line s.stages s.stripes s.time c.args.stage (omega arith) c.requires (omega (arith, c.if-self-from.false, c.from.ensures))

pub returns : goal.returns
returns c =
    let s = c.args.self.now in
    resident_ring s.stages s.stripes s.time c.args.stage c.place_back.result (omega arith) (omega (arith, s.two)) c.requires (omega (arith, c.if-self-from.false, c.from.ensures)) (c.place_back.ensures.is ∙ ap (λ m. back s.stages m c.args.stage) s.stage_is)
