-- How many columns of a group the operators of a recurrence take.
use Rattle.std.specs.Prelude.{ℕ, ◌+◌, ◌-◌, ◌^◌, ◌==◌, ◌&&◌, Bool, if◌then◌else◌, List, [], nat_le, nat_lt, fold, length, map, min, position, slice_index, sum_by, take, unwrap_or}
use Rattle.std.specs.List.{insert, range_with_len}
use Rattle.pr_flat.specs.declared.equations.Op.TheVariants.{Input}
use Rattle.pr_flat.specs.Facts.{op_at}
use Rattle.pr_net.specs.Shape.{NetShape, cells_of}
use Rattle.pr_cut_units.specs.Equations.{UnitPlan, first_unit}
use Rattle.pr_lens_needs.specs.declared.takes.Take.{Take}

-- the cells of a unit that has a number from one up to another, that one not included
abbrev pub cells_between : NetShape → ℕ → ℕ → ℕ → ℕ
cells_between net from to unit = if nat_le from unit && nat_lt unit to then length (cells_of net unit) else 0

-- the columns of those units of a group, as far as 64 bits count
abbrev pub columns_between : NetShape → List ℕ → ℕ → ℕ → ℕ
columns_between net units from to = min (sum_by (cells_between net from to) units) (2 ^ 64 - 1)

-- equation i, with the columns of its units in the group
abbrev pub take_of : UnitPlan → NetShape → List ℕ → ℕ → Take
take_of plan net units i = record {
  op = unwrap_or (op_at plan.equations i) Input;
  width = slice_index plan.widths i;
  columns = columns_between net units (first_unit plan i) (first_unit plan (i + 1));
}

abbrev pub takes_fewer : ℕ → Take → Bool
takes_fewer columns one = nat_lt one.columns columns

-- the place behind those that take so many columns or more
abbrev pub place_for : List Take → ℕ → ℕ
place_for takes columns = unwrap_or (position (takes_fewer columns) takes) (length takes)

-- one more, in this place; none that takes no column
abbrev pub with_take : List Take → Take → List Take
with_take takes one = if one.columns == 0 then takes else insert takes (place_for takes one.columns) one

-- so many equations, from the first on, that take columns of a group: the greatest number first, and of equal ones
-- the first in the text
abbrev pub takes_before : UnitPlan → NetShape → List ℕ → ℕ → List Take
takes_before plan net units count = fold with_take [] (map (take_of plan net units) (range_with_len 0 count))

-- the first ten of those before a recurrence
abbrev pub most_takes : UnitPlan → NetShape → List ℕ → ℕ → List Take
most_takes plan net units rec = take 10 (takes_before plan net units rec)
