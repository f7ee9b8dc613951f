use Rattle.std.proofs.Common.{◌≡◌, ◌+◌, map}
use Rattle.std.specs.List.{range_with_len}
use Rattle.pr_place.specs.Registers.{spotted}
use Rattle.pr_place.proofs.homes.registers.Given as goal

abbrev pub invariant-loop-i : goal.invariant-loop-i
invariant-loop-i l = l.regs.items ≡ map (λ i. (spotted l.progress.spots (l.from + i)).1) (range_with_len 0 l.i)
