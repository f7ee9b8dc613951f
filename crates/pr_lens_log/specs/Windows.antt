-- Which cycles of a log are shown.
use Rattle.std.specs.Prelude.{ℕ, ◌+◌, Bool, ◌==◌, ◌&&◌, List, Option, Some, None, drop, if◌then◌else◌, nat_lt, nat_le, slice_get, slice_range}
use Rattle.std.specs.List.{prefix_len}
use Rattle.pr_lens_log.specs.declared.lines.Logged.{Logged}
use Rattle.pr_lens_log.specs.declared.windows.Part.{Part}
use Rattle.pr_lens_log.specs.declared.windows.Side.{Side}
use Rattle.pr_lens_log.specs.declared.windows.Side.TheVariants.{Before, Within, Behind}
use Rattle.pr_lens_log.specs.declared.windows.Window.{Window}

-- a cycle has a number below this one, or one up to it
abbrev pub is_early : ℕ → Logged → Bool
is_early from logged = nat_lt logged.time from

abbrev pub is_timely : ℕ → Logged → Bool
is_timely to logged = nat_le logged.time to

-- how many cycles stand before the first that a window shows
abbrev pub before_window : Window → List Logged → ℕ
before_window window cycles = prefix_len (is_early window.from) cycles

-- how many it shows
abbrev pub in_window : Window → List Logged → ℕ
in_window window cycles = prefix_len (is_timely window.to) (drop (before_window window cycles) cycles)

-- the cycles from the first that is not too early, up to the first behind it that is too late
abbrev pub part_of : Window → List Logged → Part
part_of window cycles = record {
  start = before_window window cycles;
  end = before_window window cycles + in_window window cycles;
}

-- the cycles at its places
abbrev pub part_in : Part → List Logged → List Logged
part_in part cycles = slice_range cycles part.start part.end

abbrev pub time_or_zero : Option Logged → ℕ
time_or_zero None = 0
time_or_zero (Some logged) = logged.time

-- the number of the cycle at a place, or 0 where there is none
abbrev pub time_at : List Logged → ℕ → ℕ
time_at cycles place = time_or_zero (slice_get cycles place)

-- ---- one cycle more, of this number, behind so many of which this part is shown
-- it stands before the part where all cycles are too early, in it where it goes on, and else behind it
abbrev pub side_of : Window → ℕ → Part → ℕ → Side
side_of window count part time =
    if part.start == count && nat_lt time window.from then Before
    else if part.end == count && nat_le time window.to then Within
    else Behind

-- the part with it
abbrev pub part_with : Side → ℕ → Part → Part
part_with Before count part = record { start = count + 1; end = count + 1 }
part_with Within count part = record { start = part.start; end = count + 1 }
part_with Behind count part = part
