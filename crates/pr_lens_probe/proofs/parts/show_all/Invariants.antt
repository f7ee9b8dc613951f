use Rattle.std.proofs.Common.{◌≡◌, ◌≤◌, ◌-◌, length, take}
use Rattle.pr_lens_probe.specs.Given.{AreGiven}
use Rattle.pr_lens_probe.proofs.parts.show_all.Given as goal

abbrev pub invariant-parts : goal.invariant-parts
invariant-parts l = record {
  within : l.at ≤ length l.instances;
  items : l.shown.program.items.items ≡ l.fn.program.items.items;
  given : AreGiven l.fn.program (take l.at l.instances) l.shown.operands.items;
}

abbrev pub decreases-parts : goal.decreases-parts
decreases-parts l = length l.instances - l.at
