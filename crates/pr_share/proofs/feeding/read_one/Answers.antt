use Rattle.std.proofs.Common.{◌≡◌, ◌+◌, false, refl, sym, ◌∙◌, subst}
use Rattle.pr_samples.specs.declared.feed.Got.{Got}
use Rattle.pr_run_script.specs.Script.{free, fed}
use Rattle.pr_run.proofs.NextSamples.{IsNext, is_sample_end}
use Rattle.pr_share.specs.Turns.{IsTurning, stages_of}
use Rattle.pr_share.proofs.Steps.{turn_sample, turn_end}
use Rattle.pr_share.proofs.feeding.read_one.Goals as goal

pub returns-then-goes_on-clause-turning : goal.returns-then-goes_on-clause-turning
returns-then-goes_on-clause-turning g c = λ s runs t hv on.
    let now = (g.S.Shelf.view c.args.shelf.now) in
    let new = (g.S.Shelf.view c.next-last.new.shelf) in
    let e = c.next-last.ensures in
    let is : c.next-last.result ≡ Got.Sample = is_sample_end c.next-last.result (sym c.goes_on.ensures ∙ c.if-goes_on.true) in
    let next : IsNext c.args.feed.now c.next-last.new.self now new c.next-last.new.into c.next-last.result =
    record { told = e.told; given = e.given; file = e.file; cause = e.cause; missing = e.missing; steady = e.steady; later = e.later; same = e.same; reached = e.reached; others = e.others } in
    subst (λ (got : Got). IsTurning s (λ xs. fed (stages_of s) s.stripes free (runs xs)) c.offer_sample.new.machine c.next-last.new.self new.told t (record { count = c.args.used.count + 1; last = got; ended = false })) (sym is)
    (turn_sample s runs c.args.machine.now c.args.feed.now (g.S.Shelf.view c.args.shelf.now).told t c.args.used on c.offer_sample.new.machine c.next-last.new.self now new c.next-last.new.into hv refl c.requires.going c.requires.room
    (subst (λ (got : Got). IsNext c.args.feed.now c.next-last.new.self now new c.next-last.new.into got) is next)
    (λ h st. c.offer_sample.ensures.stands s.conf s.stripes h st))

pub returns-clause-turning : goal.returns-clause-turning
returns-clause-turning g c = λ s runs t hv on.
    let now = (g.S.Shelf.view c.args.shelf.now) in
    let new = (g.S.Shelf.view c.next-last.new.shelf) in
    let e = c.next-last.ensures in
    let next : IsNext c.args.feed.now c.next-last.new.self now new c.next-last.new.into c.next-last.result =
    record { told = e.told; given = e.given; file = e.file; cause = e.cause; missing = e.missing; steady = e.steady; later = e.later; same = e.same; reached = e.reached; others = e.others } in
    turn_end s runs c.args.machine.now c.args.feed.now (g.S.Shelf.view c.args.shelf.now).told t c.args.used on c.next-last.new.self now new c.next-last.new.into c.next-last.result refl c.requires.going (sym c.goes_on.ensures ∙ c.if-goes_on.false) c.requires.room next
