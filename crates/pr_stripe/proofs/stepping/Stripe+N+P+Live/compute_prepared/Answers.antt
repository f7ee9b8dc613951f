use Rattle.std.proofs.Common.{◌≡◌, ◌-◌, ◌*◌, ◌==◌, ◌∙◌, [], true, false, length, replicate, refl, sym, ap, arith}
use Rattle.std.proofs.lemmas.List.{length-replicate}
use Rattle.pr_conf.specs.StageMap.{made_from, registers_to, state_map}
use Rattle.pr_stripe.specs.Rows.{shown}
use Rattle.pr_stripe.proofs.ComputeLaws.{is_first, later_registers, lent, reads_bus, reads_row, row_is, state_is}
use Rattle.pr_stripe.proofs.stepping.Stripe+N+P+Live.compute_prepared.Goals as goal

pub first_step-requires : goal.first_step-requires
first_step-requires g c =
    let many = c.args.prev.now.most_registers in
    let p = c.requires.prepared in
    let e : g.row.N ≡ 16 = omega (arith, p.long, c.args._stage.now.size, c.args._stage.now.pes.ok.0) in
    let k : (g.row.P - 1) * g.row.N ≡ (g.row.P - 1) * 16 = ap (λ n. (g.row.P - 1) * n) e in
    let zeros = c.deref.ensures.value ∙ c.args.self.now.zero ∙ ap (λ n. replicate n 0) k in
    record {
      few = omega arith;
      registers = c.deref_mut.ensures.len ∙ c.args.self.now.row.size ∙ k;
      zeros = zeros;
      long = ap length zeros ∙ length-replicate _ 0;
      marks = p.marks_row;
      reach = p.reach;
      state = c.deref_mut-then-self-eq0.ensures.len ∙ c.args.self.now.size ∙ e;
    }

pub step-requires : goal.step-requires
step-requires g c =
    let many = c.args.prev.now.most_registers in
    let p = c.requires.prepared in
    let e : g.row.N ≡ 16 = omega (arith, p.long, c.args._stage.now.size, c.args._stage.now.pes.ok.0) in
    let k : (g.row.P - 1) * g.row.N ≡ (g.row.P - 1) * 16 = ap (λ n. (g.row.P - 1) * n) e in
    let row : length c.deref-else-self-eq0.result.now ≡ (g.row.P - 1) * 16 = c.deref-else-self-eq0.ensures.len ∙ c.args.prev.now.size ∙ k in
    record {
      few = omega arith;
      registers = c.deref_mut-else-self-eq0.ensures.len ∙ c.args.self.now.row.size ∙ k;
      before = c.deref-else-self-eq0-2.ensures.len ∙ c.args.prev.now.size ∙ k;
      marks = p.marks_row;
      row = let reach = p.reach in omega arith;
      state = c.deref_mut-else-self-eq0-2.ensures.len ∙ c.args.self.now.size ∙ e;
    }

pub returns-then-self-eq0-clause-state : goal.returns-then-self-eq0-clause-state
returns-then-self-eq0-clause-state g c =
    let pes = c.args._stage.now.pes.items in
    let p = c.requires.prepared in
    let e : g.row.N ≡ 16 = omega (arith, p.long, c.args._stage.now.size, c.args._stage.now.pes.ok.0) in
    state_is g.row.N g.row.P (c.args.self.now.mark.stage == 0) pes pes c.args.self.now.state.items _ c.args.bus.now c.args.bus.now _ _ _
    (reads_bus c.args.self.now.mark.stage c.args.valid c.args.bus.now (shown c.args.prev.now) c.if-self-eq0.true c.if-not-valid.false)
    c.deref_mut-then-self-eq0.ensures.value refl refl (c.first_step.ensures.state pes p ∙ ap (λ n. state_map n pes c.deref_mut-then-self-eq0.result.now c.args.bus.now) (sym e))
    (lent c.args.self.now.state.items c.first_step.new.state c.args.self.now.state.len (omega (arith, c.first_step.auto.state, c.deref_mut-then-self-eq0.ensures.len)))

pub returns-then-self-eq0-clause-row : goal.returns-then-self-eq0-clause-row
returns-then-self-eq0-clause-row g c =
    let pes = c.args._stage.now.pes.items in
    let p = c.requires.prepared in
    let e : g.row.N ≡ 16 = omega (arith, p.long, c.args._stage.now.size, c.args._stage.now.pes.ok.0) in
    row_is g.row.N g.row.P (c.args.self.now.mark.stage == 0) c.args.valid pes pes c.args.self.now.state.items _ c.args.bus.now c.args.bus.now _ _ _
    (reads_bus c.args.self.now.mark.stage c.args.valid c.args.bus.now (shown c.args.prev.now) c.if-self-eq0.true c.if-not-valid.false) c.if-not-valid.false
    c.deref_mut-then-self-eq0.ensures.value refl refl
    (c.first_step.ensures.registers pes p
    ∙ ap (λ n. registers_to (g.row.P - 1) n true pes (made_from n c.args.bus.now c.deref_mut-then-self-eq0.result.now [] pes) c.args.bus.now) (sym e)
    ∙ ap (λ f. registers_to (g.row.P - 1) g.row.N f pes (made_from g.row.N c.args.bus.now c.deref_mut-then-self-eq0.result.now [] pes) c.args.bus.now) (sym (is_first c.args.self.now.mark.stage c.if-self-eq0.true)))
    (lent c.args.self.now.row.bytes.items c.first_step.new.registers c.args.self.now.row.bytes.len (omega (arith, c.first_step.auto.registers, c.deref_mut.ensures.len)))

pub returns-else-self-eq0-clause-state : goal.returns-else-self-eq0-clause-state
returns-else-self-eq0-clause-state g c =
    let pes = c.args._stage.now.pes.items in
    let p = c.requires.prepared in
    let e : g.row.N ≡ 16 = omega (arith, p.long, c.args._stage.now.size, c.args._stage.now.pes.ok.0) in
    state_is g.row.N g.row.P (c.args.self.now.mark.stage == 0) pes pes c.args.self.now.state.items _ c.args.prev.now.bytes.items c.deref-else-self-eq0.result.now _ _ _
    (reads_row c.args.self.now.mark.stage c.args.valid c.args.prev.now.valid c.args.bus.now c.args.prev.now.bytes.items c.if-self-eq0.false c.if-not-valid.false c.requires.valid)
    c.deref_mut-else-self-eq0-2.ensures.value c.deref-else-self-eq0.ensures.value refl (c.step.ensures.state pes p ∙ ap (λ n. state_map n pes c.deref_mut-else-self-eq0-2.result.now c.deref-else-self-eq0.result.now) (sym e))
    (lent c.args.self.now.state.items c.step.new.state c.args.self.now.state.len (omega (arith, c.step.auto.state, c.deref_mut-else-self-eq0-2.ensures.len)))

pub returns-else-self-eq0-clause-row : goal.returns-else-self-eq0-clause-row
returns-else-self-eq0-clause-row g c =
    let pes = c.args._stage.now.pes.items in
    let p = c.requires.prepared in
    let e : g.row.N ≡ 16 = omega (arith, p.long, c.args._stage.now.size, c.args._stage.now.pes.ok.0) in
    row_is g.row.N g.row.P (c.args.self.now.mark.stage == 0) c.args.valid pes pes c.args.self.now.state.items _ c.args.prev.now.bytes.items c.deref-else-self-eq0.result.now _ _ _
    (reads_row c.args.self.now.mark.stage c.args.valid c.args.prev.now.valid c.args.bus.now c.args.prev.now.bytes.items c.if-self-eq0.false c.if-not-valid.false c.requires.valid) c.if-not-valid.false
    c.deref_mut-else-self-eq0-2.ensures.value c.deref-else-self-eq0.ensures.value refl
    (later_registers c.args.self.now.mark.stage (g.row.P - 1) g.row.N pes _ c.args.prev.now.bytes.items c.deref-else-self-eq0-2.result.now _ c.if-self-eq0.false c.deref-else-self-eq0-2.ensures.value
    (c.step.ensures.registers pes p
    ∙ ap (λ n. registers_to (g.row.P - 1) n false pes (made_from n c.deref-else-self-eq0.result.now c.deref_mut-else-self-eq0-2.result.now [] pes) c.deref-else-self-eq0-2.result.now) (sym e)))
    (lent c.args.self.now.row.bytes.items c.step.new.registers c.args.self.now.row.bytes.len (omega (arith, c.step.auto.registers, c.deref_mut-else-self-eq0.ensures.len)))
