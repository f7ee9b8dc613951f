use Rattle.std.proofs.Common.{refl}
use Rattle.pr_machine.proofs.Events.{taken, unready, given_one, given_none}
use Rattle.pr_machine.proofs.machine.Machine+N+P+Running.take.Goals as goal

pub returns-in-Ok-clause-stands : goal.returns-in-Ok-clause-stands
returns-in-Ok-clause-stands g c = λ k p h st. record {
  conf = st.conf;
  stripes = st.stripes;
  parts = taken c.args.self.now.parts k p h st c.get.new.into c.get.new.self c.in-Ok.ensures.got;
}

pub returns-in-Ok-clause-reply : goal.returns-in-Ok-clause-reply
returns-in-Ok-clause-reply g c = λ k p h st. given_one c.args.self.now.parts k p h st c.get.new.into c.get.new.self c.in-Ok.ensures.got

pub returns-in-Err-clause-stands : goal.returns-in-Err-clause-stands
returns-in-Err-clause-stands g c = λ k p h st. record {
  conf = st.conf;
  stripes = st.stripes;
  parts = unready c.args.self.now.parts k p h st c.get.new.self (c.in-Err.ensures.empty.0 refl) c.in-Err.ensures.same.0;
}

pub returns-in-Err-clause-reply : goal.returns-in-Err-clause-reply
returns-in-Err-clause-reply g c = λ k p h st. given_none c.args.self.now.parts k p h st (c.in-Err.ensures.empty.0 refl)
