-- How a line is read byte by byte.
use Rattle.std.specs.Prelude.{ℕ, ◌+◌, ◌-◌, ◌*◌, ◌^◌, ◌==◌, nat_lt, Bool, false, List, [], ◌∷◌, ◌++◌, drop, take, Option, None, Some, if◌then◌else◌}
use Rattle.pr_samples.specs.declared.scan.Phase.{Phase}
use Rattle.pr_samples.specs.declared.scan.Cursor.{Cursor}
use Rattle.pr_samples.specs.declared.scan.Met.{Met}
use Rattle.pr_samples.specs.Lines.{is_blank}
use Rattle.pr_samples.specs.Fed.{is_digit, Taken, Skipped, Lawful, Unlawful, CutShort}

-- the numbers that are done, the widths of the inputs after them, and what stands at the end
pub record Scan : Type 0 where
  pub done : List ℕ
  pub left : List ℕ
  pub phase : Phase

abbrev pub fresh : List ℕ → Scan
fresh widths = record { done = []; left = widths; phase = Phase.Gap }

abbrev pub in_phase : Scan → Phase → Scan
in_phase s phase = record { done = s.done; left = s.left; phase = phase }

-- a number is one of the next input
abbrev pub fits_next : List ℕ → ℕ → Bool
fits_next [] n = false
fits_next (w ∷ widths) n = nat_lt n (2 ^ w)

abbrev pub grown : Scan → ℕ → Scan
grown s n = if fits_next s.left n then in_phase s (Phase.Number n) else in_phase s Phase.Wrong

-- a digit
abbrev pub with_digit : Scan → ℕ → Scan
with_digit s digit = elim s.phase [
  | Phase.Gap ↦ grown s digit
  | Phase.Number n ↦ grown s (10 * n + digit)
  | Phase.Closed ↦ in_phase s Phase.Wrong
  | Phase.Wrong ↦ in_phase s Phase.Wrong
]

-- the end of a number, or a byte after its end
abbrev pub finished : Scan → Phase → Scan
finished s phase = elim s.phase [
  | Phase.Gap ↦ in_phase s phase
  | Phase.Number n ↦ record { done = s.done ++ n ∷ []; left = drop 1 s.left; phase = phase }
  | Phase.Closed ↦ in_phase s Phase.Wrong
  | Phase.Wrong ↦ in_phase s Phase.Wrong
]

-- a byte that is no LF
unfoldable pub step : Scan → ℕ → Scan
step s b =
    if is_digit b then with_digit s (b - 48) else
    (if is_blank b then finished s Phase.Gap else
    (if b == 13 then finished s Phase.Closed else in_phase s Phase.Wrong))

-- the numbers of a line that ended
abbrev pub taken_numbers : List ℕ → List ℕ → Taken
taken_numbers [] left = Skipped
taken_numbers (n ∷ done) [] = Lawful (n ∷ done)
taken_numbers (n ∷ done) (w ∷ left) = Unlawful

-- a whole line
unfoldable pub whole_end : Scan → Taken
whole_end s = elim s.phase [
  | Phase.Gap ↦ taken_numbers s.done s.left
  | Phase.Number n ↦ taken_numbers (s.done ++ n ∷ []) (drop 1 s.left)
  | Phase.Closed ↦ taken_numbers s.done s.left
  | Phase.Wrong ↦ Unlawful
]

abbrev pub closed_end : List ℕ → Taken
closed_end [] = CutShort
closed_end (w ∷ left) = Unlawful

-- a line that the limit cuts
unfoldable pub cut_end : Scan → Taken
cut_end s = elim s.phase [
  | Phase.Gap ↦ CutShort
  | Phase.Number n ↦ CutShort
  | Phase.Closed ↦ closed_end s.left
  | Phase.Wrong ↦ Unlawful
]

-- the first line that is not blank and has its LF, with its number and the bytes after it; or how the bytes end without one
pub data First : Type 0 where
  Missing : Scan → ℕ → First
  Found : Taken → ℕ → List ℕ → First

abbrev pub first_or : Taken → ℕ → List ℕ → First → First
first_or Skipped number rest after = after
first_or (Lawful ns) number rest after = Found (Lawful ns) number rest
first_or Unlawful number rest after = Found Unlawful number rest
first_or CutShort number rest after = Found CutShort number rest

-- after `passed` lines, in a line that was read so far
unfoldable pub first_line : List ℕ → Scan → ℕ → List ℕ → First
first_line widths s passed [] = Missing s passed
first_line widths s passed (b ∷ bytes) =
    if b == 10 then first_or (whole_end s) (passed + 1) bytes (first_line widths (fresh widths) (passed + 1) bytes)
    else first_line widths (step s b) passed bytes

-- what a cursor over these numbers stands for
abbrev pub scan_of : List ℕ → List ℕ → Cursor → Scan
scan_of widths numbers cursor = record { done = take cursor.done numbers; left = drop cursor.done widths; phase = cursor.phase }

-- a number is begun
abbrev pub begun : Phase → ℕ
begun Phase.Gap = 0
begun (Phase.Number n) = 1
begun Phase.Closed = 0
begun Phase.Wrong = 0

-- the taken line of which the numbers are these
abbrev pub taken_of : Met → List ℕ → Taken
taken_of Met.Skipped numbers = Skipped
taken_of Met.Lawful numbers = Lawful numbers
taken_of Met.Unlawful numbers = Unlawful
taken_of Met.CutShort numbers = CutShort

-- what is met in bytes: a line, of this number, or how they end
abbrev pub met_first : List ℕ → Option Met → List ℕ → Scan → ℕ → List ℕ → First
met_first widths None numbers s passed rest = first_line widths s passed rest
met_first widths (Some met) numbers s passed rest = Found (taken_of met numbers) passed rest
