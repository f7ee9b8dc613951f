use Rattle.std.proofs.Common.{arith}
use Rattle.pr_stripe_prepared.proofs.rounds.columns_in_rounds.Goals as goal

pub loop-round-preserved : goal.loop-round-preserved
loop-round-preserved c = record {
  a = c.round-made.ensures.a;
  output = c.round-made.ensures.output;
  carries = c.round-made.ensures.carries;
  right = λ pes count p. c.round-made.ensures.right pes count c.loop-round._round p (c.loop-round.invariant.right pes count p);
}

pub returns-clause-columns : goal.returns-clause-columns
returns-clause-columns c = λ pes count k d p l. (c.loop-round.invariant.right pes count p).columns k d l (let o = (p.ordered k d l).before in omega arith)
