use Rattle.std.proofs.Common.{◌≡◌}
use Rattle.pr_base.specs.Numbers.{byte_at}
use Rattle.pr_net.specs.declared.cells.Slice.{Slice}
use Rattle.pr_cut_units.specs.Parts.{each}
use Rattle.pr_cut.proofs.operands.number_slices.Given as goal

abbrev pub invariant-loop-i : goal.invariant-loop-i
invariant-loop-i l = l.all.items ≡ each l.i (λ i. Slice.Const (byte_at l.c i))
