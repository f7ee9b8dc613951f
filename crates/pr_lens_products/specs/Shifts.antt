-- Products by a constant as shifts.
use Rattle.std.specs.Prelude.{ℕ, ◌+◌, ◌-◌, ◌^◌, ◌≤◌, Option, None, Some}
use Rattle.pr_lens_products.specs.declared.shifts.Shifts.{Shifts}
use Rattle.pr_lens_products.specs.declared.shifts.Shifts.TheVariants.{One, Sum, Difference}
use Rattle.pr_lens_products.specs.Bits.{lowest_bit, only_bit}

-- the number by which these shifts multiply
abbrev pub number_of : Shifts → ℕ
number_of (One by) = 2 ^ by
number_of (Sum by and) = 2 ^ by + 2 ^ and
number_of (Difference by less) = 2 ^ by - 2 ^ less

-- a shift goes by at most 64 bits
abbrev pub AreFew : Shifts → Type 0
AreFew (One by) = by ≤ 64
AreFew (Sum by and) = (by ≤ 64) × (and ≤ 64)
AreFew (Difference by less) = (by ≤ 64) × (less ≤ 64)

-- ---- the shifts that multiply by a number: one of them is by its lowest bit
abbrev pub difference_by : Option ℕ → ℕ → Option Shifts
difference_by None low = None
difference_by (Some by) low = Some (Difference by low)

abbrev pub later_shifts : Option ℕ → ℕ → ℕ → Option Shifts
later_shifts None number low = difference_by (only_bit (number + 2 ^ low)) low
later_shifts (Some by) number low = Some (Sum by low)

abbrev pub two_shifts : ℕ → ℕ → Option Shifts
two_shifts number low = later_shifts (only_bit (number - 2 ^ low)) number low

abbrev pub some_shifts : Option ℕ → ℕ → ℕ → Option Shifts
some_shifts None number low = two_shifts number low
some_shifts (Some by) number low = Some (One by)

abbrev pub shifts_by : Option ℕ → ℕ → Option Shifts
shifts_by None number = None
shifts_by (Some low) number = some_shifts (only_bit number) number low

-- none where it takes more than two
abbrev pub shifts_of : ℕ → Option Shifts
shifts_of number = shifts_by (lowest_bit number) number
