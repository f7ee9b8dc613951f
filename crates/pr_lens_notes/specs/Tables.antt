-- The owners of units, by the columns in which the units stand.
use Rattle.std.specs.Prelude.{ℕ, zero, suc, ◌+◌, ◌==◌, ◌&&◌, Bool, nat_le, nat_lt, List, Option, None, length, slice_index_or, if◌then◌else◌}
use Rattle.pr_place.specs.Placements.{HomeShape, PlacementShape, home_of}

-- a cell of a unit stands in this column of this stage
abbrev pub stands_at : HomeShape → (stage col : ℕ) → Bool
stands_at home stage col = (home.stage == stage) && (nat_le home.col col && nat_lt col (home.col + length home.regs))

-- the owner of the unit that stands there: of the last one, of the first so many units
abbrev pub owner_of : PlacementShape → List (Option ℕ) → ℕ → (stage col : ℕ) → Option ℕ
owner_of placement owners zero stage col = None
owner_of placement owners (suc u) stage col =
    if stands_at (home_of placement u) stage col then slice_index_or owners u None else owner_of placement owners u stage col
