use Rattle.std.proofs.Common.{arith}
use Rattle.pr_lens_probe.specs.Fresh.{is_within}
use Rattle.pr_lens_probe.proofs.Names.{most-of, named-drop, named-none, within}
use Rattle.pr_lens_probe.proofs.lengths.longest_instance.Goals as goal

pub loop-instance-preserved : goal.loop-instance-preserved
loop-instance-preserved c = λ most more have.
    let m = most-of c.loop-instance.longest c.name_length.result c.max-longest.result c.max-longest.ensures in
    c.loop-instance.invariant most (omega (arith, more, m.0))
    (named-drop (is_within most) c.args.instances.now c.loop-instance.instance-index c.instance-item.result (omega arith) c.instance-item.is (within most c.instance-item.result.name (omega (arith, more, m.1, c.name_length.ensures))) have)

pub returns : goal.returns
returns c = λ most more. c.loop-instance.invariant most more (named-none (is_within most) c.args.instances.now c.loop-instance.instance-index (omega arith))
