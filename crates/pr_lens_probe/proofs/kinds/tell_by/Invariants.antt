use Rattle.std.proofs.Common.{◌≡◌, ◌≤◌, ◌-◌, length, take}
use Rattle.pr_lens_probe.specs.Given.{HaveKinds}
use Rattle.pr_lens_probe.proofs.kinds.tell_by.Given as goal

abbrev pub invariant-parts : goal.invariant-parts
invariant-parts l = record {
  within : l.at ≤ length l.instances;
  items : l.told.program.items.items ≡ l.fn.program.items.items;
  kinds : HaveKinds l.fn.program (take l.at l.instances) l.told.kinds.items;
}

abbrev pub decreases-parts : goal.decreases-parts
decreases-parts l = length l.instances - l.at
