use Rattle.std.proofs.Common.{arith}
use Rattle.pr_lens_probe.specs.Fresh.{is_within}
use Rattle.pr_lens_probe.proofs.Names.{have-drop, have-none}
use Rattle.pr_lens_probe.proofs.lengths.longest_static.Goals as goal

pub loop-item-preserved : goal.loop-item-preserved
loop-item-preserved c = record {
  signed = omega (arith, c.loop-item.invariant.signed, c.max-longest.ensures);
  rest = λ most more have. c.loop-item.invariant.rest most (omega (arith, more, c.max-longest.ensures))
      (have-drop (is_within most) c.args.items.now c.loop-item.item-index c.item-item.result (omega arith) c.item-item.is (c.length_of.ensures most (omega (arith, more, c.max-longest.ensures))) have);
}

pub returns : goal.returns
returns c = λ most more. c.loop-item.invariant.rest most more (have-none most c.args.items.now c.loop-item.item-index (omega arith) (omega (arith, more, c.loop-item.invariant.signed)))
