use Rattle.std.proofs.Common.{length, vec_len, ◌≡◌, ℕ, ◌+◌, ◌<◌, refl, sym, ap, subst, ◌∙◌, arith}
use Rattle.std.proofs.lemmas.Bool.Decides.{nat_tests}
use Rattle.pr_control.specs.Time.{before, back}
use Rattle.pr_control.proofs.Round.{back_cases, back-before, back_below, before_below}
use Rattle.pr_conf.specs.Configuration.{shape_of}
use Rattle.pr_conf.specs.Through.{steps_of}
use Rattle.pr_machine_refines.specs.Spots.{shows, stepped}
use Rattle.pr_machine_refines.proofs.InPlace.{turn_more, all_more, turn_end, turn_kept}
use Rattle.pr_machine.specs.declared.places.StripePlace.TheVariants as V
use Rattle.pr_stripe.specs.Rows.{entering as row_if}
use Rattle.pr_machine.specs.Places.{IsHere, seen}
use Rattle.pr_machine.proofs.places.step_ring.Goals as goal

first_back : (n q : ℕ) → q < n → before n q ≡ back n q 0
first_back n q h = let f = back_cases n q 0 h (omega arith) in grind (arith, nat_tests)

pub loop-d-init : goal.loop-d-init
loop-d-init g c =
    let n = length c.args.places.now in
    record {
      at = c.place_before-at.ensures ∙ first_back n c.args.q c.requires.at;
      below = subst (λ a. a < n) (sym c.place_before-at.ensures) (before_below n c.args.q c.requires.at);
      turn = record { done = λ i l b. absurd (omega arith); rest = λ i l b. refl };
      here = c.requires.here;
    }

pub loop-d-preserved : goal.loop-d-preserved
loop-d-preserved g c =
    let n = length c.args.places.now in
    let next : c.place_before-from.result ≡ back n c.args.q (c.loop-d._d + 1) = c.place_before-from.ensures ∙ (ap (before n) c.loop-d.invariant.at ∙ back-before n c.args.q c.loop-d._d c.requires.at (omega arith)) in
    record {
      at = next;
      below = omega (arith, next, back_below n c.args.q (c.loop-d._d + 1) c.requires.at (omega arith));
      turn = turn_more V.Away (λ old prev new. seen new ≡ stepped (steps_of g.row.N g.row.P (shape_of c.args.conf.now)) (row_if c.args.valid c.args.buffers.now.sample.items) (seen old) (shows (seen prev))) n c.args.q c.loop-d._d c.loop-d.at c.place_before-from.result c.args.places.now c.loop-d.places c.step_at.new.places c.requires.at (omega arith) c.loop-d.invariant.at c.place_before-from.ensures c.loop-d.invariant.turn c.step_at.ensures.others c.step_at.ensures.step;
      here = all_more V.Away (IsHere (vec_len c.args.conf.now.stages)) c.loop-d.at c.loop-d.places c.step_at.new.places (omega arith) c.loop-d.invariant.here c.step_at.ensures.others c.step_at.ensures.here;
    }

pub returns-clause-ring : goal.returns-clause-ring
returns-clause-ring g c = record {
  step = turn_end V.Away (λ old prev new. seen new ≡ stepped (steps_of g.row.N g.row.P (shape_of c.args.conf.now)) (row_if c.args.valid c.args.buffers.now.sample.items) (seen old) (shows (seen prev))) (length c.args.places.now) c.args.q c.loop-d._d c.args.places.now c.loop-d.places c.requires.at (omega arith) c.loop-d.invariant.turn;
  kept = let e = turn_kept V.Away (λ old prev new. seen new ≡ stepped (steps_of g.row.N g.row.P (shape_of c.args.conf.now)) (row_if c.args.valid c.args.buffers.now.sample.items) (seen old) (shows (seen prev))) (length c.args.places.now) c.args.q c.loop-d._d c.args.places.now c.loop-d.places c.requires.at (omega arith) c.loop-d.invariant.turn in ap seen e;
}
