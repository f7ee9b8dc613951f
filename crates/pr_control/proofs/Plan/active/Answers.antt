use Rattle.std.proofs.Common.{◌≡◌, ◌%◌, arith, ap, ◌∙◌}
use Rattle.pr_control.specs.Time.{back}
use Rattle.pr_control.proofs.Residence.{active_some, active_line, active_none, active_early}
use Rattle.pr_control.proofs.Plan.active.Goals as goal

pub returns-then-self-from : goal.returns-then-self-from
returns-then-self-from c =
    let s = c.args.self.now in
    active_early s.stages s.stripes s.time c.args.stage (omega (arith, c.if-self-from.true, c.from.ensures))

pub returns-then-self : goal.returns-then-self
returns-then-self c =
    let s = c.args.self.now in
    active_line s.stages s.stripes s.time c.args.stage (omega arith) c.requires (omega (arith, c.if-self-from.false, c.from.ensures))

pub returns-then-age-self : goal.returns-then-age-self
returns-then-age-self c =
    let s = c.args.self.now in
    let a : c.place_back-age.result ≡ back s.stages (s.time % s.stages) c.args.stage = c.place_back-age.ensures.is ∙ ap (λ m. back s.stages m c.args.stage) s.stage_is in
    let b : c.place_back.result ≡ back s.stripes (s.time % s.stripes) (back s.stages (s.time % s.stages) c.args.stage) = c.place_back.ensures.is ∙ (ap (λ q. back s.stripes q c.place_back-age.result) s.stripe_is ∙ ap (back s.stripes (s.time % s.stripes)) a) in
    active_some s.stages s.stripes s.time c.args.stage c.place_back.result (omega arith) c.requires (omega (arith, c.if-self-from.false, c.from.ensures)) (omega (arith, s.two)) (omega (arith, a, c.if-age-self.true)) b

pub returns : goal.returns
returns c =
    let s = c.args.self.now in
    let a : c.place_back-age.result ≡ back s.stages (s.time % s.stages) c.args.stage = c.place_back-age.ensures.is ∙ ap (λ m. back s.stages m c.args.stage) s.stage_is in
    active_none s.stages s.stripes s.time c.args.stage (omega arith) c.requires (omega (arith, c.if-self-from.false, c.from.ensures)) (omega (arith, s.two)) (omega (arith, a, c.if-age-self.false))
