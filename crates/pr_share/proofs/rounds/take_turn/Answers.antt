use Rattle.std.proofs.Common.{◌≡◌, Some, None, Option, [], arith, refl, sym, ap, ◌∙◌, subst}
use Rattle.pr_edge.specs.Files.{Told, HasReadCause}
use Rattle.pr_samples.specs.declared.feed.Got.{Got}
use Rattle.pr_samples.specs.Feed.{name_of}
use Rattle.pr_conf.specs.declared.configurations.Configuration.{Configuration}
use Rattle.pr_conf.specs.Configuration.{shape_of}
use Rattle.pr_conf.specs.Through.{output_widths}
use Rattle.pr_machine.specs.declared.parking.Parked.{Parked}
use Rattle.pr_machine.specs.Stands.{conf_of, stripes_of}
use Rattle.pr_share.specs.Turns.{Begins}
use Rattle.pr_share.specs.declared.items.ShareItem.{ShareItem}
use Rattle.pr_share.specs.Items.{ended_after, HasTaken, world, IsTurn, IsHalf}
use Rattle.pr_share.proofs.Steps.{stands_self, cause_as}
use Rattle.pr_share.proofs.ItemSteps.{parked_is, inputs_are, fed_yet, turn_setting, turn_item, half_item}
use Rattle.pr_share.proofs.rounds.take_turn.Goals as goal

pub run_turn-requires : goal.run_turn-requires
run_turn-requires g c =
    let q = c.requires.taken in
    let is = ap (shape_of {N = g.row.N} {P = g.row.P}) c.resume-running.ensures.conf ∙ parked_is c.args.item.now.parked c.take.result c.in-Some.parked c.take.ensures.value c.in-Some.is in (
      omega arith,
      (
        omega arith,
        (
          stands_self c.resume-running.result _ _ [] c.resume-running.ensures.stands,
          (
            inputs_are (g.S.Shelf.view c.args.shelf.now).told q.0 c.args.item.now q.1 (conf_of c.resume-running.result) q.2 is,
            (
              c.put_widths-count.ensures.widths ∙ ap (λ (k : Configuration g.row.N g.row.P). output_widths (shape_of k)) c.conf.ensures.is,
              (c.requires.number, (q.0.feed, (q.1, fed_yet (g.S.Shelf.view c.args.shelf.now).told q.0 c.args.item.now q.1 q.2 c.requires.going))),
            ),
          ),
        ),
      ),
    )

pub returns-clause-turn : goal.returns-clause-turn
returns-clause-turn g c = λ first rows h.
    let told = (g.S.Shelf.view c.args.shelf.now).told in
    let told' = (g.S.Shelf.view c.run_turn.new.shelf).told in
    let same : told' ≡ told = c.run_turn.ensures.told in
    let b = (g.S.Shelf.view c.args.shelf.now).faults in
    let b' = (g.S.Shelf.view c.run_turn.new.shelf).faults in
    let t = (g.K.Sink.view c.args.out.now).told in
    let t' = (g.K.Sink.view c.run_turn.new.out).told in
    let m = c.resume-running.result in
    let is = ap (shape_of {N = g.row.N} {P = g.row.P}) c.resume-running.ensures.conf ∙ parked_is c.args.item.now.parked c.take.result c.in-Some.parked c.take.ensures.value c.in-Some.is in
    let s = turn_setting first rows (conf_of m) (stripes_of m) c.args.number t in
    let begins : Begins s m c.args.item.now.feed told t c.args.number = record { conf = refl; stripes = refl; number_is = refl; tape = refl; fed = fed_yet told first c.args.item.now rows h c.requires.going } in
    let turned = c.in-Ok.ensures.turned s begins in
    let cause : c.in-Ok.last ≡ Got.ReadFault → HasReadCause told' (name_of first.feed) b b' = λ e. cause_as told told' (name_of c.args.item.now.feed) (name_of first.feed) b b' (sym same) h.fed.file.name (c.in-Ok.ensures.read_fault e) in
    let ended : ShareItem g.row.N g.row.P = record { parked = Some c.park-bare.result.1; feed = c.run_turn.new.feed; quota = c.args.item.now.quota; ended = ended_after c.in-Ok.last } in
    subst (λ (e : Option Got). IsTurn first (record { parked = Some c.park-bare.result.1; feed = c.run_turn.new.feed; quota = c.args.item.now.quota; ended = e }) rows c.args.number (world told b t) (world told' b' t')) (sym c.ended_by-item.ensures)
    (subst (λ (w : Told). IsTurn first ended rows c.args.number (world w b t) (world told' b' t')) same
    (turn_item told' first c.args.item.now rows c.args.number (stripes_of m) t t' (subst (λ (w : Told). HasTaken w first c.args.item.now rows) (sym same) h) (conf_of m) is c.run_turn.new.machine c.run_turn.new.feed c.in-Ok.last b b'
    turned c.park-bare.result.1 (c.park-bare.ensures.parked s.conf s.stripes turned.history turned.stands) cause))

pub returns-in-Err-clause-half : goal.returns-in-Err-clause-half
returns-in-Err-clause-half g c = λ first rows h.
    let told = (g.S.Shelf.view c.args.shelf.now).told in
    let told' = (g.S.Shelf.view c.run_turn.new.shelf).told in
    let same : told' ≡ told = c.run_turn.ensures.told in
    let b = (g.S.Shelf.view c.args.shelf.now).faults in
    let b' = (g.S.Shelf.view c.run_turn.new.shelf).faults in
    let t = (g.K.Sink.view c.args.out.now).told in
    let t' = (g.K.Sink.view c.run_turn.new.out).told in
    let m = c.resume-running.result in
    let is = ap (shape_of {N = g.row.N} {P = g.row.P}) c.resume-running.ensures.conf ∙ parked_is c.args.item.now.parked c.take.result c.in-Some.parked c.take.ensures.value c.in-Some.is in
    let s = turn_setting first rows (conf_of m) (stripes_of m) c.args.number t in
    let begins : Begins s m c.args.item.now.feed told t c.args.number = record { conf = refl; stripes = refl; number_is = refl; tape = refl; fed = fed_yet told first c.args.item.now rows h c.requires.going } in
    let left : ShareItem g.row.N g.row.P = record { parked = None; feed = c.run_turn.new.feed; quota = c.args.item.now.quota; ended = c.args.item.now.ended } in
    subst (λ (o : Option (Parked g.row.N g.row.P)). IsHalf first (record { parked = o; feed = c.run_turn.new.feed; quota = c.args.item.now.quota; ended = c.args.item.now.ended }) rows c.args.number (world told b t) (world told' b' t')) (sym c.take.ensures.after)
    (subst (λ (w : Told). IsHalf first left rows c.args.number (world w b t) (world told' b' t')) same
    (half_item told' first c.args.item.now rows c.args.number (stripes_of m) t t' (subst (λ (w : Told). HasTaken w first c.args.item.now rows) (sym same) h) (conf_of m) is c.run_turn.new.feed b b' c.requires.going (c.in-Err.ensures.cut s begins)))

pub returns-clause-steady : goal.returns-clause-steady
returns-clause-steady g c = λ other. c.in-Ok.ensures.steady (λ e. other (c.ended_by-item.ensures ∙ ap ended_after e))
