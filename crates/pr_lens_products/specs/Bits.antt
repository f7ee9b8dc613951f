-- Single bits of numbers.
use Rattle.std.specs.Prelude.{ℕ, ◌^◌, ◌/◌, ◌%◌, ◌==◌, Bool, Option}
use Rattle.pr_lens_source.specs.Ranges.{first_between}

-- a number is this power of two
abbrev pub is_power : ℕ → ℕ → Bool
is_power number place = 2 ^ place == number

-- the place of the only bit of a number of at most 65 bits, where it has one alone
unfoldable pub only_bit : ℕ → Option ℕ
only_bit number = first_between (is_power number) 0 65

-- the bit at a place is 1
abbrev pub has_bit : ℕ → ℕ → Bool
has_bit number place = number / 2 ^ place % 2 == 1

-- the place of the lowest bit of a number of 64 bits that is 1
unfoldable pub lowest_bit : ℕ → Option ℕ
lowest_bit number = first_between (has_bit number) 0 64
