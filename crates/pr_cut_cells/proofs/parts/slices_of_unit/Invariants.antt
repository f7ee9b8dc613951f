use Rattle.std.proofs.Common.{◌≡◌}
use Rattle.pr_net.specs.declared.cells.Slice.{Slice}
use Rattle.pr_cut_units.specs.Parts.{each}
use Rattle.pr_cut_cells.proofs.parts.slices_of_unit.Given as goal

abbrev pub invariant-loop-i : goal.invariant-loop-i
invariant-loop-i l = l.slices.items ≡ each l.i (λ i. Slice.Of l.unit i)
