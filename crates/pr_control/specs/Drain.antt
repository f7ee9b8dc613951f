-- How many cycles bring out what is under way, for v stages on p stripes.
use Rattle.std.specs.Prelude.{ℕ, ◌+◌, ◌-◌, ◌*◌, ◌/◌, nat_le, if◌then◌else◌}

-- in how many free turns n samples that have not entered come out, whatever is under way; n / (p - 1) is rounded up
abbrev pub drain : ℕ → ℕ → ℕ → ℕ
drain v p n = if nat_le v p then n + v else v * ((n + (p - 2)) / (p - 1) + 1)
