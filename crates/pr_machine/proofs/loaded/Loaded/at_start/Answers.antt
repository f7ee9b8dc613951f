use Rattle.std.proofs.Common.{refl, ap, arith, vec_len}
use Rattle.pr_queue.specs.Pieces.{Pieces}
use Rattle.pr_machine.specs.Places.{place_at}
use Rattle.pr_machine.proofs.IdleLaws.{idle_start}
use Rattle.pr_machine.proofs.Starting.{bare_here, bare_is, starting}
use Rattle.pr_machine.proofs.loaded.Loaded.at_start.Goals as goal

pub returns-clause-stands : goal.returns-clause-stands
returns-clause-stands g c = record {
  conf = refl;
  stripes = refl;
  parts = starting c.args.conf c.args.places.items c.args.buffers.store c.make-plan.result.time c.args.buffers.input c.args.buffers.output (omega (arith, c.requires.two, c.args.places.ok.0)) c.requires.bare c.requires.states
      c.make-plan.ensures.time (ap (λ (q : Pieces). q.waiting) c.requires.input) (ap (λ (q : Pieces). q.waiting) c.requires.output);
}

pub invariant_of-result-clause-idle : goal.invariant_of-result-clause-idle
invariant_of-result-clause-idle g c = idle_start c.args.places.items (λ i h. bare_is (place_at c.args.places.items i) (c.requires.bare i h))

pub invariant_of-result-clause-here : goal.invariant_of-result-clause-here
invariant_of-result-clause-here g c = λ i h. bare_here (vec_len c.args.conf.stages) (place_at c.args.places.items i) (c.requires.bare i h)
