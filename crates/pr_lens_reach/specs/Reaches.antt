-- Between which values the numbers of a stream stand.
use Rattle.std.specs.Prelude.{ℕ, ◌+◌, ◌-◌, ◌*◌, ◌/◌, ◌^◌, Bool, true, false, ◌&&◌, max, min, nat_eq, nat_le, nat_lt, Option, Some, None, cond, if◌then◌else◌}
use Rattle.std.specs.Int.{div_ceil}
use Rattle.std.specs.Int.Count.{count_leading_zeros}
use Rattle.pr_flat.specs.declared.forms.Form.{Form}
use Rattle.pr_lens_reach.specs.declared.reaches.Bound.{Bound}
use Rattle.pr_lens_reach.specs.declared.reaches.Reach.{Reach}

-- the greatest value of a kind and width
abbrev pub greatest_of : Bool → ℕ → ℕ
greatest_of signed w = if signed then 2 ^ (w - 1) - 1 else 2 ^ w - 1

-- how far its least value is below 0
abbrev pub depth_of : Bool → ℕ → ℕ
depth_of signed w = if signed then 2 ^ (w - 1) else 0

-- ---- values: how far above 0 or below it
abbrev pub over : ℕ → Bound
over n = record { above = n; below = 0 }

abbrev pub under : ℕ → Bound
under n = record { above = 0; below = n }

abbrev pub lower : Bound → Bound → Bound
lower a b = record { above = min a.above b.above; below = max a.below b.below }

abbrev pub higher : Bound → Bound → Bound
higher a b = record { above = max a.above b.above; below = min a.below b.below }

abbrev pub opposite : Bound → Bound
opposite a = record { above = a.below; below = a.above }

-- so far above 0, less so far below it
abbrev pub level : ℕ → ℕ → Bound
level above below = record { above = above - below; below = below - above }

-- ---- reaches
abbrev pub between : Bound → Bound → Reach
between least greatest = record { least = least; greatest = greatest }

abbrev pub up_to : ℕ → Reach
up_to n = between (over 0) (over n)

abbrev pub only : Bound → Reach
only a = between a a

-- all values of a kind and width, where the width is 128 at most
abbrev pub whole_of : Bool → ℕ → Option Reach
whole_of signed w = cond (nat_le w 128) (Some (between (under (depth_of signed w)) (over (greatest_of signed w)))) None

abbrev pub whole : Form → Option Reach
whole f = whole_of f.signed f.width

-- no value is below 0
abbrev pub is_natural : Reach → Bool
is_natural r = nat_eq r.least.below 0

-- ---- operators
-- a number of 128 bits
abbrev pub bound_of : ℕ → Option ℕ
bound_of n = cond (nat_lt n (2 ^ 128)) (Some n) None

abbrev pub level_of : Option ℕ → Option ℕ → Option Bound
level_of (Some above) (Some below) = Some (level above below)
level_of _ _ = None

abbrev pub plus_by : Option ℕ → Option ℕ → Option ℕ
plus_by (Some m) (Some n) = bound_of (m + n)
plus_by _ _ = None

abbrev pub both_times : ℕ → ℕ → ℕ → ℕ → Option ℕ
both_times a b c d = plus_by (bound_of (a * b)) (bound_of (c * d))

abbrev pub sum : Bound → Bound → Option Bound
sum a b = level_of (bound_of (a.above + b.above)) (bound_of (a.below + b.below))

abbrev pub product : Bound → Bound → Option Bound
product a b = level_of (both_times a.above b.above a.below b.below) (both_times a.above b.below a.below b.above)

abbrev pub lower_of : Option Bound → Option Bound → Option Bound
lower_of (Some a) (Some b) = Some (lower a b)
lower_of _ _ = None

abbrev pub higher_of : Option Bound → Option Bound → Option Bound
higher_of (Some a) (Some b) = Some (higher a b)
higher_of _ _ = None

abbrev pub of_bounds : Option Bound → Option Bound → Option Reach
of_bounds (Some least) (Some greatest) = Some (between least greatest)
of_bounds _ _ = None

abbrev pub sum_of : Reach → Reach → Option Reach
sum_of r s = of_bounds (sum r.least s.least) (sum r.greatest s.greatest)

abbrev pub difference_of : Reach → Reach → Option Reach
difference_of r s = of_bounds (sum r.least (opposite s.greatest)) (sum r.greatest (opposite s.least))

-- the least and the greatest product are products of bounds
abbrev pub product_of : Reach → Reach → Option Reach
product_of r s =
    let a = product r.least s.least in
    let b = product r.least s.greatest in
    let c = product r.greatest s.least in
    let d = product r.greatest s.greatest in
    of_bounds (lower_of (lower_of a b) (lower_of c d)) (higher_of (higher_of a b) (higher_of c d))

-- a number has no bit that one of two does not have
abbrev pub common_of : Reach → Reach → Option Reach
common_of r s =
    if is_natural r then (if is_natural s then Some (up_to (min r.greatest.above s.greatest.above)) else Some (up_to r.greatest.above))
    else (if is_natural s then Some (up_to s.greatest.above) else None)

-- the greatest number of as many bits
abbrev pub filled : ℕ → ℕ
filled n = 2 ^ (128 - count_leading_zeros 128 n) - 1

abbrev pub together_of : Reach → Reach → Option Reach
together_of r s =
    if is_natural r && is_natural s then Some (between (higher r.least s.least) (over (filled (max r.greatest.above s.greatest.above)))) else None

abbrev pub apart_of : Reach → Reach → Option Reach
apart_of r s = if is_natural r && is_natural s then Some (up_to (filled (max r.greatest.above s.greatest.above))) else None

abbrev pub either_of : Reach → Reach → Reach
either_of r s = between (lower r.least s.least) (higher r.greatest s.greatest)

-- shifts by so many bits; to the right a value is rounded down
abbrev pub raised : ℕ → Bound → Option Bound
raised k a = level_of (bound_of (a.above * 2 ^ k)) (bound_of (a.below * 2 ^ k))

abbrev pub raised_of : ℕ → Reach → Option Reach
raised_of k r = cond (nat_lt k 128) (of_bounds (raised k r.least) (raised k r.greatest)) None

abbrev pub lowered : ℕ → Bound → Bound
lowered k a = cond (nat_lt k 128) (record { above = a.above / 2 ^ k; below = div_ceil a.below (2 ^ k) }) (under (min a.below 1))

abbrev pub lowered_of : ℕ → Reach → Reach
lowered_of k r = between (lowered k r.least) (lowered k r.greatest)

-- ---- widths
-- these values, where all of them are among others; else the others
abbrev pub is_in : Reach → Reach → Bool
is_in r all = nat_le r.least.below all.least.below && nat_le r.greatest.above all.greatest.above

abbrev pub within : Option Reach → Option Reach → Option Reach
within (Some all) (Some r) = if is_in r all then Some r else Some all
within all r = all

-- a kind and width have all these values
abbrev pub fits_in : Bool → ℕ → Reach → Bool
fits_in signed w r = nat_le r.least.below (depth_of signed w) && nat_le r.greatest.above (greatest_of signed w)

-- values beyond 128 bits fit nowhere
abbrev pub fits_at : Bool → ℕ → Option Reach → Bool
fits_at signed w None = false
fits_at signed w (Some r) = fits_in signed w r

-- ---- the same bits, read as a signed number
-- a number that is always the same one
abbrev pub read_number : ℕ → ℕ → Bound
read_number w n = if nat_le n (2 ^ (w - 1) - 1) then over n else under (2 ^ w - 1 - (n - 1))

abbrev pub read_reach : ℕ → Option Reach → Option Reach
read_reach w r = if fits_at true w r then r else whole_of true w

abbrev pub read_by : ℕ → Option ℕ → Option Reach → Option Reach
read_by w (Some n) r = Some (only (read_number w n))
read_by w None r = read_reach w r

abbrev pub read_signed : ℕ → Option ℕ → Option Reach → Option Reach
read_signed w still r = cond (nat_le w 128) (read_by w still r) None
