use Rattle.std.proofs.Common.{ℕ, List, refl, sym, subst, arith, ◌∙◌}
use Rattle.pr_share.specs.Items.{IsNoneOf}
use Rattle.pr_share.proofs.RoundSteps.{sharing_round}
use Rattle.pr_share.proofs.rounds.make_round.Goals as goal

pub loop-number-init : goal.loop-number-init
loop-number-init g c = record { sharing = λ firsts start r st. st; steady = λ all. (all, refl); count = refl; told = refl; others = λ q none. refl; names = refl; shelf_later = omega arith; out_later = omega arith }

pub loop-number-preserved : goal.loop-number-preserved
loop-number-preserved g c =
    let inv = c.loop-number.invariant in
    record {
      sharing = λ firsts start r st. c.in-Ok.ensures.next firsts start r (inv.sharing firsts start r st);
      steady = λ all. (let step = c.in-Ok.ensures.steady all in let earlier = inv.steady step.0 in (earlier.0, step.1 ∙ earlier.1));
      count = c.take_place.ensures.count ∙ inv.count;
      told = c.take_place.ensures.told ∙ inv.told;
      others = λ q none. c.take_place.ensures.others q (subst (λ (ns : List (List ℕ)). IsNoneOf ns q) (sym inv.names) none) ∙ inv.others q none;
      names = c.take_place.ensures.names ∙ inv.names;
      shelf_later = omega (arith, inv.shelf_later, c.take_place.ensures.shelf_later);
      out_later = omega (arith, inv.out_later, c.take_place.ensures.out_later);
    }

pub take_place-requires : goal.take_place-requires
take_place-requires g c =
    let q = c.requires.sharing in
    (omega arith, (omega arith, (omega arith, (omega (arith, c.loop-number.invariant.count), (omega (arith, c.loop-number.invariant.count), (q.0, q.1, q.2, c.loop-number.invariant.sharing q.0 q.1 q.2 q.3))))))

pub returns-in-Err-clause-stopped : goal.returns-in-Err-clause-stopped
returns-in-Err-clause-stopped g c = λ firsts start r st. c.in-Err.ensures.stopped firsts start r (c.loop-number.invariant.sharing firsts start r st)

pub returns-clause-round : goal.returns-clause-round
returns-clause-round g c = λ firsts start r st.
    let inv = c.loop-number.invariant in
    sharing_round (g.S.Shelf.view c.loop-number.shelf).told firsts c.loop-number.items start (g.S.Shelf.view c.loop-number.shelf).faults (g.K.Sink.view c.loop-number.out).told r c.loop-number.number (inv.sharing firsts start r st)
    (omega (arith, inv.count, c.loop-number-test.false, c.loop-number.auto.number-end))

pub returns-in-Err-clause-others : goal.returns-in-Err-clause-others
returns-in-Err-clause-others g c = λ q none. c.take_place.ensures.others q (subst (λ (ns : List (List ℕ)). IsNoneOf ns q) (sym c.loop-number.invariant.names) none) ∙ c.loop-number.invariant.others q none

pub returns-clause-steady : goal.returns-clause-steady
returns-clause-steady g c = λ all. c.loop-number.invariant.steady all
