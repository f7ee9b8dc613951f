use Rattle.std.proofs.Common.{◌≡◌, sym, ◌∙◌, subst}
use Rattle.pr_samples.specs.declared.feed.Got.{Got}
use Rattle.pr_run_script.specs.Script.{fed}
use Rattle.pr_run.specs.Setting.{stages_of}
use Rattle.pr_run.specs.Turns.{IsOn}
use Rattle.pr_run.proofs.NextSamples.{IsNext, is_sample_end}
use Rattle.pr_run.proofs.FeedSteps.{has_room, on_end, on_sample}
use Rattle.pr_run.proofs.feeding.read_one.Goals as goal

pub returns-then-goes_on-clause-on : goal.returns-then-goes_on-clause-on
returns-then-goes_on-clause-on g c = λ s runs turn t set side on.
    let now = (g.S.Shelf.view c.args.shelf.now) in
    let new = (g.S.Shelf.view c.next-got.new.shelf) in
    let e = c.next-got.ensures in
    let is : c.next-got.result ≡ Got.Sample = is_sample_end c.next-got.result (sym c.goes_on.ensures ∙ c.if-goes_on.true) in
    let next : IsNext c.args.feed.now c.next-got.new.self now new c.next-got.new.into c.next-got.result =
    record { told = e.told; given = e.given; file = e.file; cause = e.cause; missing = e.missing; steady = e.steady; later = e.later; same = e.same; reached = e.reached; others = e.others } in
    subst (λ (got : Got). IsOn s (λ xs. fed (stages_of s) s.stripes turn (runs xs)) c.offer_sample.new.machine c.next-got.new.self new t got) (sym is)
    (on_sample s runs turn c.args.machine.now c.offer_sample.new.machine c.args.feed.now c.next-got.new.self now new t c.next-got.new.into set side
    (λ h st. has_room s c.args.machine.now h c.requires.room st)
    (subst (λ (got : Got). IsNext c.args.feed.now c.next-got.new.self now new c.next-got.new.into got) is next)
    (λ h st. c.offer_sample.ensures.stands s.conf s.stripes h st) on)

pub returns-else-goes_on-clause-on : goal.returns-else-goes_on-clause-on
returns-else-goes_on-clause-on g c = λ s runs turn t set side on.
    let now = (g.S.Shelf.view c.args.shelf.now) in
    let new = (g.S.Shelf.view c.next-got.new.shelf) in
    let e = c.next-got.ensures in
    let next : IsNext c.args.feed.now c.next-got.new.self now new c.next-got.new.into c.next-got.result =
    record { told = e.told; given = e.given; file = e.file; cause = e.cause; missing = e.missing; steady = e.steady; later = e.later; same = e.same; reached = e.reached; others = e.others } in
    on_end s runs turn c.args.machine.now c.args.feed.now c.next-got.new.self now new t c.next-got.new.into c.next-got.result (sym c.goes_on.ensures ∙ c.if-goes_on.false) side
    (λ h st. has_room s c.args.machine.now h c.requires.room st) next on
