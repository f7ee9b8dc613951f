use Rattle.std.proofs.Common.{◌≡◌, ◌<◌, vec_len}
use Rattle.pr_control.specs.Time.{back}
use Rattle.pr_conf.specs.Configuration.{shape_of}
use Rattle.pr_conf.specs.Through.{steps_of}
use Rattle.pr_machine_refines.specs.Spots.{shows, stepped}
use Rattle.pr_machine_refines.proofs.InPlace.{IsTurn}
use Rattle.pr_machine.specs.declared.places.StripePlace.TheVariants as V
use Rattle.pr_stripe.specs.Rows.{entering as row_if}
use Rattle.pr_machine.specs.Places.{AreHere, seen}
use Rattle.pr_machine.proofs.places.step_ring.Given as goal

-- a place that is less than d behind q has computed, from what it and the one before it were; each other is as it was
abbrev pub invariant-loop-d : goal.invariant-loop-d
invariant-loop-d g l = record {
  at : l.at ≡ back l.n l.q l._d;
  below : l.at < l.n;
  turn : IsTurn V.Away (λ old prev new. seen new ≡ stepped (steps_of g.row.N g.row.P (shape_of l.conf)) (row_if l.valid l.buffers.sample.items) (seen old) (shows (seen prev))) l.n l.q l._d l.fn.places l.places;
  here : AreHere (vec_len l.conf.stages) l.places;
}
