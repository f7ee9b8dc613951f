use Rattle.pr_lens_probe.specs.Fresh.{probes_from}
use Rattle.pr_lens_probe.proofs.Pushing.{pushed-all}
use Rattle.pr_lens_probe.proofs.asking.push_outputs.Goals as goal

pub returns : goal.returns
returns c =
    pushed-all c.args.want c.args.most c.loop-instance.instance-index c.args.instances.now c.args.items.items c.loop-instance.items.items (probes_from c.args.most 0 c.args.instances.now) c.loop-instance-test.false c.loop-instance.invariant.rest
