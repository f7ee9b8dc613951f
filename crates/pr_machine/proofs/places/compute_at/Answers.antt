use Rattle.std.proofs.Common.{◌-◌, ◌<◌, ◌∙◌, sym, ap, arith, rules, length, vec_len}
use Rattle.std.proofs.lemmas.Bool.{ltb-true}
use Rattle.pr_machine.specs.Places.{is_here}
use Rattle.pr_machine.proofs.ReadyLaws.{ready_at}
use Rattle.pr_machine.proofs.places.compute_at.Goals as goal

pub compute_prepared-requires : goal.compute_prepared-requires
compute_prepared-requires g c =
    let n = vec_len c.args.conf.now.stages in
    let below = ltb-true c.in-Live.stripe.mark.stage n (ap (is_here n) (sym c.in-Live.is) ∙ c.requires.here) in
    let here : c.stage_number-number.result < length c.args.buffers.now.prepared.items = omega (arith, below, c.requires.fits.count, c.args.buffers.now.prepared.ok.0, c.stage_number-number.ensures) in
    let ready = ready_at (g.row.P - 1) _ c.args.buffers.now.prepared.items c.stage_number-number.result _ _ c.requires.fits.ready here c.stage_at-stage.ensures.pes c.index.ensures in
    (omega arith, (omega arith, (omega arith, (search rules, (search rules, ready c.in-Some.prepared c.in-Some.is)))))
