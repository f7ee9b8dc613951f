use Rattle.std.proofs.Common.{◌≡◌, ◌≤◌, ◌+◌, ◌-◌, ◌++◌, length}
use Rattle.pr_cut_units.specs.Parts.{in_turn}
use Rattle.pr_cut_units.specs.Shifts.{shift_row, shifted_by}
use Rattle.pr_cutmul.proofs.shifts.shifted_by.Given as goal

abbrev pub invariant-loop-j : goal.invariant-loop-j
invariant-loop-j l = record {
  kept : length l.fn.units.items ≤ length l.units.items;
  grows : length l.units.items ≤ length l.fn.units.items + l.j;
  units : l.units.items ++ (in_turn (shift_row l.shift.left l.shift.w l.shift.by.now) l.j (l.shift.bits - l.j) l.before.items (length l.units.items)).units ≡ l.fn.units.items ++ (shifted_by l.shift.left l.shift.w l.shift.by.now l.shift.bits l.x (length l.fn.units.items)).units;
  slices : (in_turn (shift_row l.shift.left l.shift.w l.shift.by.now) l.j (l.shift.bits - l.j) l.before.items (length l.units.items)).slices ≡ (shifted_by l.shift.left l.shift.w l.shift.by.now l.shift.bits l.x (length l.fn.units.items)).slices;
}
