-- Numbers from one up to another: how many pass a test, and which is the first or the last that does.
use Rattle.std.specs.Prelude.{ℕ, zero, suc, ◌-◌, Bool, Option, None, Some, if◌then◌else◌, find}
use Rattle.std.specs.List.{count_by, range_with_len}

abbrev pub one_where : Bool → ℕ
one_where holds = if holds then 1 else 0

-- how many pass from one up to another, that one not included
unfoldable pub count_between : (ℕ → Bool) → ℕ → ℕ → ℕ
count_between test from to = count_by test (range_with_len from (to - from))

-- the first that passes from one up to another, that one not included
unfoldable pub first_between : (ℕ → Bool) → ℕ → ℕ → Option ℕ
first_between test from to = find test (range_with_len from (to - from))

-- the last that passes below one
unfoldable pub last_below : (ℕ → Bool) → ℕ → Option ℕ
last_below test zero = None
last_below test (suc n) = if test n then Some n else last_below test n
