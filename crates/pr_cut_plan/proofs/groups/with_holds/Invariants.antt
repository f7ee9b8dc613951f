use Rattle.std.proofs.Common.{◌≡◌, ℕ, ◌+◌, ◌++◌}
use Rattle.pr_cut_units.specs.Parts.{each}
use Rattle.pr_cut_plan.proofs.groups.with_holds.Given as goal

abbrev pub invariant-loop-j : goal.invariant-loop-j
invariant-loop-j l = l.units.items ≡ l.fn.tied.items ++ each l.j (λ (j : ℕ). l.holds.first + j)
