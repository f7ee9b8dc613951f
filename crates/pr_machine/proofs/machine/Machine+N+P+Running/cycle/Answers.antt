use Rattle.std.proofs.Common.{sym, ◌∙◌}
use Rattle.pr_machine.proofs.Cycles.{held_parts, turn_held, turn_next, reply_held, reply_next}
use Rattle.pr_machine.proofs.machine.Machine+N+P+Running.cycle.Goals as goal

pub returns-clause-stands : goal.returns-clause-stands
returns-clause-stands g c = λ k p h st. c.advance.ensures.stands k p h st (sym (c.is_held.ensures k p h st) ∙ c.if-is_held.false)

pub returns-clause-turn : goal.returns-clause-turn
returns-clause-turn g c = λ k p h st. turn_next c.args.self.now.parts k p h st c.advance.result (sym (c.is_held.ensures k p h st) ∙ c.if-is_held.false) (c.advance.ensures.turn k p h st)

pub returns-clause-reply : goal.returns-clause-reply
returns-clause-reply g c = λ k p h st. reply_next c.args.self.now.parts k p h st c.advance.result (sym (c.is_held.ensures k p h st) ∙ c.if-is_held.false) (c.advance.ensures.turn k p h st)

pub returns-then-is_held-clause-stands : goal.returns-then-is_held-clause-stands
returns-then-is_held-clause-stands g c = λ k p h st. record {
  conf = st.conf;
  stripes = st.stripes;
  parts = held_parts c.args.self.now.parts k p h st (sym (c.is_held.ensures k p h st) ∙ c.if-is_held.true);
}

pub returns-then-is_held-clause-turn : goal.returns-then-is_held-clause-turn
returns-then-is_held-clause-turn g c = λ k p h st. turn_held c.args.self.now.parts k p h st (sym (c.is_held.ensures k p h st) ∙ c.if-is_held.true)

pub returns-then-is_held-clause-reply : goal.returns-then-is_held-clause-reply
returns-then-is_held-clause-reply g c = λ k p h st. reply_held c.args.self.now.parts k p h st (sym (c.is_held.ensures k p h st) ∙ c.if-is_held.true)
