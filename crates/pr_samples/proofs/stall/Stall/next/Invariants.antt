use Rattle.std.proofs.Common.{◌≡◌, ◌-◌, length}
use Rattle.pr_samples.specs.Stall.{turns_left}
use Rattle.pr_samples.proofs.stall.Stall.next.Given as goal

abbrev pub invariant-loop-self : goal.invariant-loop-self
invariant-loop-self l = turns_left l.self ≡ turns_left l.initial.self

abbrev pub decreases-loop-self : goal.decreases-loop-self
decreases-loop-self l = length l.self.text.items - l.self.at
