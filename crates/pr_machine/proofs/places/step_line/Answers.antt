use Rattle.std.proofs.Common.{length, take, vec_len, refl, subst, arith}
use Rattle.std.proofs.lemmas.List.{length-take-le}
use Rattle.pr_conf.specs.Configuration.{shape_of}
use Rattle.pr_conf.specs.Through.{steps_of}
use Rattle.pr_stripe.specs.Rows.{entering as row_if}
use Rattle.pr_machine_refines.specs.Cycle.{IsRingStep}
use Rattle.pr_machine.specs.Places.{spots_of}
use Rattle.pr_machine.proofs.IdleLaws.{line_here, line_step}
use Rattle.pr_machine.proofs.places.step_line.Goals as goal

pub returns-clause-line : goal.returns-clause-line
returns-clause-line g c =
    let bus = row_if c.args.valid c.args.buffers.now.sample.items in
    let many = length-take-le c.args.live c.args.places.now c.requires.live in
    let ring = subst (λ n. IsRingStep (steps_of g.row.N g.row.P (shape_of c.args.conf.now)) bus n 0 (spots_of (take c.args.live c.args.places.now)) (spots_of c.step_ring.new.places)) many c.step_ring.ensures.ring in
    line_step (steps_of g.row.N g.row.P (shape_of c.args.conf.now)) bus (length c.args.places.now) c.args.live c.args.places.now c.step_ring.new.places _ c.step_below.new.places refl c.requires.live (omega (arith, c.if-live-eq0.false)) (omega (arith, c.step_ring.auto.places, length-take-le c.args.live c.args.places.now c.requires.live)) refl
    c.requires.two c.requires.idle ring c.step_below.ensures.others (omega arith) c.step_below.ensures.step

pub returns-clause-here : goal.returns-clause-here
returns-clause-here g c =
    let bus = row_if c.args.valid c.args.buffers.now.sample.items in
    line_here (steps_of g.row.N g.row.P (shape_of c.args.conf.now)) bus (length c.args.places.now) c.args.live c.args.places.now c.step_ring.new.places _ c.step_below.new.places refl c.requires.live (omega (arith, c.if-live-eq0.false)) (omega (arith, c.step_ring.auto.places, length-take-le c.args.live c.args.places.now c.requires.live)) refl
    (vec_len c.args.conf.now.stages) c.requires.here c.step_ring.ensures.here (omega arith) c.step_below.ensures.others c.step_below.ensures.here
