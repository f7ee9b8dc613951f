use Rattle.std.proofs.Common.{◌≡◌, drop}
use Rattle.pr_lens_probe.specs.Fresh.{probes_from}
use Rattle.pr_lens_probe.proofs.Pushing.{LeavesAsked}
use Rattle.pr_lens_probe.proofs.asking.push_outputs.Given as goal

abbrev pub invariant-loop-instance : goal.invariant-loop-instance
invariant-loop-instance l = record {
  number : l.number ≡ l.instance-index;
  rest : LeavesAsked l.want l.initial.items.items (probes_from l.most 0 l.instances) l.items.items (probes_from l.most l.instance-index (drop l.instance-index l.instances));
}
