use Rattle.pr_flat_ops.proofs.Values.{point_bits}
use Rattle.pr_flat_ops.proofs.BitLemmas.{wrapped_and}
use Rattle.pr_flat_ops.proofs.arithmetic.common_bits.Goals as goal

pub returns : goal.returns
returns c =
    let x = point_bits c.args.a c.whole_of.result.bits c.requires.a c.whole_of.ensures.bits in
    let y = point_bits c.args.b c.whole_of-2.result.bits c.requires.b c.whole_of-2.ensures.bits in
    wrapped_and c.args.a c.args.b c.whole_of.result.bits c.whole_of-2.result.bits c.requires.a c.requires.b x y
