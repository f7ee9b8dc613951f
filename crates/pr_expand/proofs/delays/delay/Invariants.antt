use Rattle.std.proofs.Common.{◌≡◌, ◌-◌}
use Rattle.pr_expand_spec.specs.Making.{delayed}
use Rattle.pr_expand.specs.Code.{shapes_in}
use Rattle.pr_expand.proofs.delays.delay.Given as goal

abbrev pub invariant-loop-k : goal.invariant-loop-k
invariant-loop-k l = delayed (l.samples - l._k) (record { operand = l.operand; signed = l.signed }) l.init (shapes_in l.ledger) ≡ delayed l.samples l.fn.given l.init (shapes_in l.fn.ledger)
