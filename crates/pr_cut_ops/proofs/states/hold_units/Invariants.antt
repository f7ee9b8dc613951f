use Rattle.std.proofs.Common.{◌≡◌, ◌+◌, ◌++◌, ◌∷◌, length}
use Rattle.pr_base.specs.Numbers.{slices_of}
use Rattle.pr_cut_units.specs.Parts.{each}
use Rattle.pr_cut_units.specs.States.{hold_cell, later_cell}
use Rattle.pr_cut_ops.proofs.states.hold_units.Given as goal

abbrev pub invariant-loop-j : goal.invariant-loop-j
invariant-loop-j l = record {
  count : length l.units.items ≡ length l.fn.units.items + 1 + l.j;
  first : l.first ≡ length l.fn.units.items;
  units : l.units.items ≡ l.fn.units.items ++ each (slices_of l.w) (hold_cell l.w l.init l.x) ∷ each l.j (λ j. each (slices_of l.w) (later_cell l.init (length l.fn.units.items + j)));
}
