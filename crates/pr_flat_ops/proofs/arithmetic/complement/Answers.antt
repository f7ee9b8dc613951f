use Rattle.pr_flat_ops.proofs.Values.{point_bits}
use Rattle.pr_flat_ops.proofs.SumLemmas.{wrapped_complement}
use Rattle.pr_flat_ops.proofs.arithmetic.complement.Goals as goal

pub returns : goal.returns
returns c = wrapped_complement c.args.a c.whole_of.result.bits c.requires (point_bits c.args.a c.whole_of.result.bits c.requires c.whole_of.ensures.bits)
