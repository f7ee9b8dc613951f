use Rattle.pr_system.specs.Slots.{NoneBefore}
use Rattle.pr_system.proofs.slots.find.Given as goal

abbrev pub invariant-loop-i : goal.invariant-loop-i
invariant-loop-i g l = NoneBefore l.slots l.name l.i
