use Rattle.std.proofs.Common.{refl}
use Rattle.pr_machine.proofs.Events.{offered, refused, accepted, full}
use Rattle.pr_machine.proofs.machine.Machine+N+P+Running.offer.Goals as goal

pub returns-in-Ok-clause-stands : goal.returns-in-Ok-clause-stands
returns-in-Ok-clause-stands g c = λ k p h st. record {
  conf = st.conf;
  stripes = st.stripes;
  parts = offered c.args.self.now.parts k p h st c.args.piece.now c.put.new.self c.in-Ok.ensures.room c.in-Ok.ensures.put;
}

pub returns-in-Ok-clause-reply : goal.returns-in-Ok-clause-reply
returns-in-Ok-clause-reply g c = λ k p h st. accepted c.args.self.now.parts k p h st c.args.piece.now c.in-Ok.ensures.room

pub returns-in-Err-clause-stands : goal.returns-in-Err-clause-stands
returns-in-Err-clause-stands g c = λ k p h st. record {
  conf = st.conf;
  stripes = st.stripes;
  parts = refused c.args.self.now.parts k p h st c.args.piece.now c.put.new.self (c.in-Err.ensures.full.0 refl) c.in-Err.ensures.same;
}

pub returns-in-Err-clause-reply : goal.returns-in-Err-clause-reply
returns-in-Err-clause-reply g c = λ k p h st. full c.args.self.now.parts k p h st c.args.piece.now (c.in-Err.ensures.full.0 refl)
