use Rattle.std.proofs.Common.{arith, sym, ap, ◌∙◌}
use Rattle.pr_control.specs.Time.{ahead}
use Rattle.pr_control.proofs.Round.{mod_ahead}
use Rattle.pr_control.proofs.Plan.next.Goals as goal

pub invariant_of-self-clause-stage_is : goal.invariant_of-self-clause-stage_is
invariant_of-self-clause-stage_is c =
    let s = c.args.self.now in
    c.after-self.ensures ∙ (ap (ahead s.stages) s.stage_is ∙ sym (mod_ahead s.stages s.time s.some))

pub invariant_of-self-clause-stripe_is : goal.invariant_of-self-clause-stripe_is
invariant_of-self-clause-stripe_is c =
    let s = c.args.self.now in
    c.after-self-2.ensures ∙ (ap (ahead s.stripes) s.stripe_is ∙ sym (mod_ahead s.stripes s.time (omega (arith, s.two))))
