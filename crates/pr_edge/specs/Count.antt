-- Counts of faults. A count is a 64-bit number that never falls and that stays at its last value.
use Rattle.std.specs.Prelude.{ℕ, ◌+◌, ◌-◌, ◌^◌, ◌<◌, ◌≤◌, min}

-- the value at which a count stays
abbrev pub last_count : ℕ
last_count = 2 ^ 64 - 1

-- the next value of a count
abbrev pub next_count : ℕ → ℕ
next_count n = min (n + 1) last_count

-- the count rose by this number at least; one that stands at its last value may have risen by any number
abbrev pub RoseBy : ℕ → ℕ → ℕ → Type 0
RoseBy before now number = min (before + number) last_count ≤ now

-- the count rose, or stands at its last value, where it may have risen
abbrev pub Rose : ℕ → ℕ → Type 0
Rose before now = RoseBy before now 1

-- the count did not rise, and does not stand at its last value either
abbrev pub IsSteady : ℕ → ℕ → Type 0
IsSteady before now = now < min (before + 1) last_count
