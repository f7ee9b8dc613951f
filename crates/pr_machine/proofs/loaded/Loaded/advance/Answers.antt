use Rattle.std.proofs.Common.{◌≡◌, ◌+◌, ◌-◌, ◌≤◌, ◌++◌, length, take, drop, refl, sym, ap, rules, vec_len, vec_capacity, ◌∙◌, subst, arith}
use Rattle.pr_queue.specs.Pieces.{Pieces}
use Rattle.pr_machine_refines.specs.Cycle.{HasRoom, pushed}
use Rattle.pr_stripe.specs.Rows.{entering as row_if}
use Rattle.pr_conf.specs.Configuration.{shape_of}
use Rattle.pr_machine.specs.Places.{AreHere, AreIdle, spots_of}
use Rattle.pr_machine.proofs.IdleLaws.{idle_after, inside_first}
use Rattle.pr_machine.proofs.ReadyLaws.{same_ready}
use Rattle.pr_machine.proofs.Cycles.{next_machine, turn_told, written}
use Rattle.pr_machine.proofs.loaded.Loaded.advance.Goals as goal

pub returns-clause-stands : goal.returns-clause-stands
returns-clause-stands g c =
    let s = c.args.self.now in
    let read = c.enter-entering.new.buffers in
    let went = c.pass-passed.new.buffers in
    let after = c.put_result.new.buffers in
    let same : length c.pass-passed.new.places ≡ length s.places.items = omega arith in
    let places : take s.places.len (c.pass-passed.new.places ++ drop (length c.pass-passed.new.places) s.places.items) ≡ c.pass-passed.new.places = written s.places.len c.pass-passed.new.places s.places.items (omega (arith, s.places.ok.0, same)) in
    let output : went.output ≡ s.buffers.output = c.pass-passed.ensures.others.1 ∙ c.enter-entering.ensures.others.1 in
    let row = subst (λ (q : Pieces). HasRoom q.waiting (row_if c.pass-passed.result.left went.result.items) → after.output.waiting ≡ pushed q.waiting (row_if c.pass-passed.result.left went.result.items)) output c.put_result.ensures.put in
    let input : after.input.waiting ≡ read.input.waiting = ap (λ (q : Pieces). q.waiting) (c.put_result.ensures.others.1 ∙ c.pass-passed.ensures.others.0) in
    λ k p h st free. record {
      conf = st.conf;
      stripes = ap length places ∙ (same ∙ st.stripes);
      parts = next_machine s k p h st c.args.schedule.now c.requires.schedule c.deref_mut.result.now c.pass-passed.new.places read.store went.store after.output.waiting c.next-event.result c.enter-entering.result c.pass-passed.result.left read.sample.items went.result.items c.pass-passed.result.saved
          c.deref_mut.ensures.value c.enter-entering.ensures.others.0 c.next-event.ensures.event c.enter-entering.ensures.bus c.pass-passed.ensures.pass row
          _ after.store c.next-event.new.self.time _ _ after.input.waiting free places c.put_result.ensures.others.0 c.next-event.ensures.time (ap (λ n. s.entered + n) c.counted.ensures.is) (ap (λ n. s.left + n) c.counted-2.ensures.is) (input ∙ c.enter-entering.ensures.rest);
    }

pub returns-clause-turn : goal.returns-clause-turn
returns-clause-turn g c =
    let s = c.args.self.now in
    let read = c.enter-entering.new.buffers in
    let went = c.pass-passed.new.buffers in
    let after = c.put_result.new.buffers in
    let output : went.output ≡ s.buffers.output = c.pass-passed.ensures.others.1 ∙ c.enter-entering.ensures.others.1 in
    let row = subst (λ (q : Pieces). HasRoom q.waiting (row_if c.pass-passed.result.left went.result.items) → after.output.waiting ≡ pushed q.waiting (row_if c.pass-passed.result.left went.result.items)) output c.put_result.ensures.put in
    λ k p h st. turn_told s k p h st c.args.schedule.now c.requires.schedule c.deref_mut.result.now c.pass-passed.new.places read.store went.store after.output.waiting c.next-event.result c.enter-entering.result c.pass-passed.result.left read.sample.items went.result.items c.pass-passed.result.saved
    c.deref_mut.ensures.value c.enter-entering.ensures.others.0 c.next-event.ensures.event c.enter-entering.ensures.bus c.pass-passed.ensures.pass row
    _ refl c.configured.ensures refl c.numbered.ensures c.numbered-2.ensures

pub pass-passed-requires : goal.pass-passed-requires
pass-passed-requires g c =
    let s = c.args.self.now in
    let ready = same_ready (g.row.P - 1) (shape_of s.conf).stages s.buffers.prepared.items _ (ap (λ v. v.items) c.enter-entering.ensures.others.3) s.ready in (
      omega arith,
      (
        omega arith,
        (
          omega arith,
          (
            record { two = search rules; small = search rules; live = search rules; idle = search rules; ring = search rules; last = search rules },
            (search rules, (record { sample = search rules; ready = ready; count = search rules }, (search rules, (search rules, search rules)))),
          ),
        ),
      ),
    )

pub invariant_of-self-clause-ready : goal.invariant_of-self-clause-ready
invariant_of-self-clause-ready g c =
    let s = c.args.self.now in
    same_ready (g.row.P - 1) (shape_of s.conf).stages s.buffers.prepared.items _ (ap (λ v. v.items) (c.put_result.ensures.others.4 ∙ c.pass-passed.ensures.others.3 ∙ c.enter-entering.ensures.others.3)) s.ready

pub invariant_of-self-clause-here : goal.invariant_of-self-clause-here
invariant_of-self-clause-here g c =
    let s = c.args.self.now in
    let same : length c.pass-passed.new.places ≡ length s.places.items = omega arith in
    subst (AreHere (vec_len s.conf.stages)) (sym (written s.places.len c.pass-passed.new.places s.places.items (omega (arith, s.places.ok.0, same)))) c.pass-passed.ensures.here

pub invariant_of-self-clause-buffer : goal.invariant_of-self-clause-buffer
invariant_of-self-clause-buffer g c =
    let s = c.args.self.now in
    let put = ap (λ v. vec_capacity v) c.put_result.ensures.others.2 in
    let read = ap (λ v. vec_capacity v) c.enter-entering.ensures.others.2 in
    omega (arith, s.buffer, put, read, c.pass-passed.ensures.buffer)

pub invariant_of-self-clause-live_in : goal.invariant_of-self-clause-live_in
invariant_of-self-clause-live_in g c =
    let s = c.args.self.now in
    let below : s.live ≤ s.plan.stripes = omega (arith, s.live_in, s.plan_stripes) in
    omega (arith, s.plan_stripes, c.live_after-self.ensures.most s.plan.stripes below (inside_first s.plan.stages s.plan.stripes c.next-event.result c.next-event.ensures.inside))

pub invariant_of-self-clause-idle : goal.invariant_of-self-clause-idle
invariant_of-self-clause-idle g c =
    let s = c.args.self.now in
    let went = c.pass-passed.new.places in
    let same : length went ≡ length s.places.items = omega arith in
    let was = subst (λ xs. AreIdle s.live (spots_of xs)) (sym c.deref_mut.ensures.value) s.idle in
    subst (λ xs. AreIdle c.live_after-self.result (spots_of xs)) (sym (written s.places.len went s.places.items (omega (arith, s.places.ok.0, same))))
    (idle_after _ _ _ (length c.deref_mut.result.now) _ _ c.next-event.result _ c.deref_mut.result.now went _ _ _ _ s.live c.live_after-self.result c.pass-passed.ensures.pass (omega arith) was c.live_after-self.ensures.more c.live_after-self.ensures.event)
