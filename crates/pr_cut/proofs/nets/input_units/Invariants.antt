use Rattle.std.proofs.Common.{◌≡◌, ◌≤◌, ◌+◌, ◌++◌, length, drop}
use Rattle.std.specs.List.{sum_by}
use Rattle.pr_base.specs.Numbers.{slices_of}
use Rattle.pr_cut_units.specs.Equations.{input_units}
use Rattle.pr_cut.proofs.nets.input_units.Given as goal

abbrev pub invariant-loop-i : goal.invariant-loop-i
invariant-loop-i l = record {
  count : length l.units.items ≤ l.i;
  units : l.units.items ++ input_units l.offset (drop l.i l.widths) ≡ input_units 0 l.widths;
  offset : l.offset + sum_by slices_of (drop l.i l.widths) ≡ sum_by slices_of l.widths;
}
