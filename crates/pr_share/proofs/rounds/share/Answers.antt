use Rattle.std.proofs.Common.{◌∙◌, ℕ, List, refl, sym, subst, arith}
use Rattle.pr_share.specs.Items.{world, IsNoneOf}
use Rattle.pr_share.proofs.RoundSteps.{sharing_start, sharing_end, few_rounds}
use Rattle.pr_share.proofs.rounds.share.Goals as goal

pub loop-init : goal.loop-init
loop-init g c = record {
  sharing = sharing_start (g.S.Shelf.view c.args.shelf.now).told c.args.parts.now (g.S.Shelf.view c.args.shelf.now).faults (g.K.Sink.view c.args.out.now).told c.requires.ready;
  steady = λ all. refl;
  count = refl;
  few = omega arith;
  told = refl;
  others = λ q none. refl;
  names = refl;
  shelf_later = omega arith;
  out_later = omega arith;
}

pub returns-then-not-is_going-clause-shared : goal.returns-then-not-is_going-clause-shared
returns-then-not-is_going-clause-shared g c = λ done.
    let start = world (g.S.Shelf.view c.args.shelf.now).told (g.S.Shelf.view c.args.shelf.now).faults (g.K.Sink.view c.args.out.now).told in
    sharing_end (g.S.Shelf.view c.loop.shelf).told c.args.parts.now c.loop.parts start (g.S.Shelf.view c.loop.shelf).faults (g.K.Sink.view c.loop.out).told c.loop.counter c.loop.invariant.sharing (c.is_going.ensures.over cc) c.loop.invariant.steady

pub returns-in-Err-clause-stopped : goal.returns-in-Err-clause-stopped
returns-in-Err-clause-stopped g c = λ fault.
    let start = world (g.S.Shelf.view c.args.shelf.now).told (g.S.Shelf.view c.args.shelf.now).faults (g.K.Sink.view c.args.out.now).told in
    c.in-Err.ensures.stopped c.args.parts.now start c.loop.counter c.loop.invariant.sharing

pub loop-preserved : goal.loop-preserved
loop-preserved g c =
    let inv = c.loop.invariant in
    let start = world (g.S.Shelf.view c.args.shelf.now).told (g.S.Shelf.view c.args.shelf.now).faults (g.K.Sink.view c.args.out.now).told in
    let going = c.is_going.ensures.going cc in
    let few = few_rounds (g.S.Shelf.view c.loop.shelf).told c.args.parts.now c.loop.parts start (g.S.Shelf.view c.loop.shelf).faults (g.K.Sink.view c.loop.out).told c.loop.counter going.place going.item inv.sharing going.here going.going in
    record {
      sharing = c.in-Ok.ensures.round c.args.parts.now start c.loop.counter inv.sharing;
      steady = λ all. (let round = c.in-Ok.ensures.steady all in round.1 ∙ inv.steady round.0);
      count = c.make_round.ensures.count ∙ inv.count;
      few = omega (arith, few);
      told = c.make_round.ensures.told ∙ inv.told;
      others = λ q none. c.make_round.ensures.others q (subst (λ (ns : List (List ℕ)). IsNoneOf ns q) (sym inv.names) none) ∙ inv.others q none;
      names = c.make_round.ensures.names ∙ inv.names;
      shelf_later = omega (arith, inv.shelf_later, c.make_round.ensures.shelf_later);
      out_later = omega (arith, inv.out_later, c.make_round.ensures.out_later);
    }

pub make_round-requires : goal.make_round-requires
make_round-requires g c =
    let start = world (g.S.Shelf.view c.args.shelf.now).told (g.S.Shelf.view c.args.shelf.now).faults (g.K.Sink.view c.args.out.now).told in
    (omega arith, (omega arith, (omega arith, (omega (arith, c.loop.invariant.count), (c.args.parts.now, start, c.loop.counter, c.loop.invariant.sharing)))))

pub returns-in-Err-clause-others : goal.returns-in-Err-clause-others
returns-in-Err-clause-others g c = λ q none. c.make_round.ensures.others q (subst (λ (ns : List (List ℕ)). IsNoneOf ns q) (sym c.loop.invariant.names) none) ∙ c.loop.invariant.others q none
