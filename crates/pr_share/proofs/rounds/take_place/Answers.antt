use Rattle.std.proofs.Common.{◌+◌, slice_set, get_or, is_some, refl, sym, ap, ◌∙◌, subst, arith}
use Rattle.std.proofs.lemmas.List.{get_or_default}
use Rattle.pr_edge.specs.Files.{Told}
use Rattle.pr_samples.proofs.ResultLemmas.{on_ok, on_err}
use Rattle.pr_samples.specs.Feed.{name_of}
use Rattle.pr_share.specs.declared.items.ShareItem.{ShareItem}
use Rattle.pr_share.specs.Items.{world, IsTurn, IsHalf}
use Rattle.pr_share.proofs.ListFacts.{got_from, got_any, map_at, map_set, none_from}
use Rattle.pr_share.proofs.RoundSteps.{taken_here, skip_here, turn_here, told_same, none_before, none_here}
use Rattle.pr_share.proofs.StopSteps.{stop_here, stop_told}
use Rattle.pr_share.proofs.rounds.take_place.Goals as goal

pub returns-then-is_some-clause-next : goal.returns-then-is_some-clause-next
returns-then-is_some-clause-next g c = λ firsts start r st.
    skip_here (g.S.Shelf.view c.args.shelf.now).told firsts c.args.items.now start (g.S.Shelf.view c.args.shelf.now).faults (g.K.Sink.view c.args.out.now).told r c.args.number st c.index-items-number.result
    (got_from c.args.items.now c.args.number c.index-items-number.result c.requires.at c.index-items-number.is) (ap (λ (x : ShareItem g.row.N g.row.P). is_some x.ended) c.index-items-number.is ∙ (sym c.is_some.ensures ∙ c.if-is_some.true))

pub take_turn-requires : goal.take_turn-requires
take_turn-requires g c =
    let q = c.requires.sharing in
    let now = get_or c.args.items.now c.args.number c.index-items-number-2.result in
    let going = ap (λ (x : ShareItem g.row.N g.row.P). is_some x.ended) (get_or_default c.args.items.now c.args.number c.index-items-number-2.result c.index-items-number.result c.requires.at) ∙ (sym c.is_some.ensures ∙ c.if-is_some.false) in
    let w = taken_here (g.S.Shelf.view c.args.shelf.now).told q.0 c.args.items.now q.1 (g.S.Shelf.view c.args.shelf.now).faults (g.K.Sink.view c.args.out.now).told q.2 c.args.number q.3 now (got_any c.args.items.now c.args.number c.index-items-number-2.result c.requires.at) in (
      omega arith,
      (
        omega arith,
        (
          omega arith,
          (
            omega (arith, c.requires.at, c.requires.few),
            (
              none_from now.ended going,
              (w.0, w.1.0, w.1.1),
            ),
          ),
        ),
      ),
    )

pub returns-clause-next : goal.returns-clause-next
returns-clause-next g c = λ firsts start r st.
    let told = (g.S.Shelf.view c.args.shelf.now).told in
    let told' = (g.S.Shelf.view c.take_turn.new.shelf).told in
    let b = (g.S.Shelf.view c.args.shelf.now).faults in
    let b' = (g.S.Shelf.view c.take_turn.new.shelf).faults in
    let before = (g.K.Sink.view c.args.out.now).told in
    let after = (g.K.Sink.view c.take_turn.new.out).told in
    let now = get_or c.args.items.now c.args.number c.index-items-number-2.result in
    let here = got_any c.args.items.now c.args.number c.index-items-number-2.result c.requires.at in
    let going = ap (λ (x : ShareItem g.row.N g.row.P). is_some x.ended) (get_or_default c.args.items.now c.args.number c.index-items-number-2.result c.index-items-number.result c.requires.at) ∙ (sym c.is_some.ensures ∙ c.if-is_some.false) in
    let w = taken_here told firsts c.args.items.now start b before r c.args.number st now here in
    on_ok c.take_turn.result _ _
    (λ turn. told_same told told' firsts (slice_set c.args.items.now c.args.number c.take_turn.new.item) start b' after r (c.args.number + 1) c.take_turn.ensures.told
    (turn_here told firsts c.args.items.now start b before r c.args.number st now here c.take_turn.new.item b' after (none_from now.ended going) c.take_turn.ensures.shelf_later
    (subst (λ (x : Told). IsTurn w.0 c.take_turn.new.item w.1.0 c.args.number (world told b before) (world x b' after)) c.take_turn.ensures.told turn)))
    (c.take_turn.ensures.turn w.0 w.1.0 w.1.1)

pub returns-clause-stopped : goal.returns-clause-stopped
returns-clause-stopped g c = λ firsts start r st.
    let told = (g.S.Shelf.view c.args.shelf.now).told in
    let told' = (g.S.Shelf.view c.take_turn.new.shelf).told in
    let b = (g.S.Shelf.view c.args.shelf.now).faults in
    let b' = (g.S.Shelf.view c.take_turn.new.shelf).faults in
    let before = (g.K.Sink.view c.args.out.now).told in
    let after = (g.K.Sink.view c.take_turn.new.out).told in
    let now = get_or c.args.items.now c.args.number c.index-items-number-2.result in
    let here = got_any c.args.items.now c.args.number c.index-items-number-2.result c.requires.at in
    let going = ap (λ (x : ShareItem g.row.N g.row.P). is_some x.ended) (get_or_default c.args.items.now c.args.number c.index-items-number-2.result c.index-items-number.result c.requires.at) ∙ (sym c.is_some.ensures ∙ c.if-is_some.false) in
    let w = taken_here told firsts c.args.items.now start b before r c.args.number st now here in
    on_err c.take_turn.result _ _
    (λ half. stop_told told told' firsts (slice_set c.args.items.now c.args.number c.take_turn.new.item) start b' after c.take_turn.ensures.told
    (stop_here told firsts c.args.items.now start b before r c.args.number st now here c.take_turn.new.item b' after (none_from now.ended going) c.take_turn.ensures.shelf_later
    (subst (λ (x : Told). IsHalf w.0 c.take_turn.new.item w.1.0 c.args.number (world told b before) (world x b' after)) c.take_turn.ensures.told half)))
    (c.take_turn.ensures.half w.0 w.1.0 w.1.1)

pub returns-clause-others : goal.returns-clause-others
returns-clause-others g c = λ q none.
    let here = got_any c.args.items.now c.args.number c.index-items-number-2.result c.requires.at in
    c.take_turn.ensures.others q (none c.args.number _ (map_at (λ (x : ShareItem g.row.N g.row.P). name_of x.feed) c.args.items.now c.args.number _ here))

pub returns-clause-names : goal.returns-clause-names
returns-clause-names g c =
    let here = got_any c.args.items.now c.args.number c.index-items-number-2.result c.requires.at in
    map_set (λ (x : ShareItem g.row.N g.row.P). name_of x.feed) c.args.items.now c.args.number _ c.take_turn.new.item here c.take_turn.ensures.name

pub returns-then-is_some-clause-steady : goal.returns-then-is_some-clause-steady
returns-then-is_some-clause-steady g c = λ all. (all, refl)

pub returns-clause-steady : goal.returns-clause-steady
returns-clause-steady g c =
    let now = get_or c.args.items.now c.args.number c.index-items-number-2.result in
    let here = got_any c.args.items.now c.args.number c.index-items-number-2.result c.requires.at in
    let going = ap (λ (x : ShareItem g.row.N g.row.P). is_some x.ended) (get_or_default c.args.items.now c.args.number c.index-items-number-2.result c.index-items-number.result c.requires.at) ∙ (sym c.is_some.ensures ∙ c.if-is_some.false) in
    on_ok c.take_turn.result _ _
    (λ steady all. (none_before c.args.items.now c.args.number now c.take_turn.new.item here (none_from now.ended going) all, steady (none_here c.args.items.now c.args.number now c.take_turn.new.item here all)))
    c.take_turn.ensures.steady
