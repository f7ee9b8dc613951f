-- What a line of a log tells.
use Rattle.std.specs.Prelude.{◌≡◌, ◌⊎◌, ◌≤◌, ◌<◌, ◌^◌, ◌==◌, ◌||◌, ◌&&◌, ℕ, Bool, true, false, Option, Some, None, List, [], length, slice_index, slice_get, nat_eq, codes, IsTrue}
use Rattle.std.specs.List.{starts_with}
use Rattle.pr_conf.specs.declared.turns.Turn.{Turn}
use Rattle.pr_log.specs.Lines.{line_of}
use Rattle.pr_lens_log.specs.declared.lines.Logged.{Logged}
use Rattle.pr_lens_log.specs.declared.lines.LogLine.{LogLine}
use Rattle.pr_lens_log.specs.declared.lines.LogLine.TheVariants.{Cycle, Result, End}
use Rattle.pr_lens_log.specs.Words.{AreShort, IsShort, IsLong, AreBytes}

-- nothing happens
abbrev pub stalled_turn : Turn
stalled_turn = record { advanced = false; configured = None; saved = None; entered = None; left = None }

-- stages and stripes have 32 bits, samples and results 64; and nothing happens in a cycle that is stalled
pub record CanBe (turn : Turn) : Type 0 where
  pub configured : AreShort turn.configured
  pub saved : IsShort turn.saved
  pub entered : IsLong turn.entered
  pub left : IsLong turn.left
  pub still : turn.advanced ≡ false → turn ≡ stalled_turn

-- these bytes are the line of the cycle, with some state where one was saved
pub record IsCycleLine (bytes : List ℕ) (logged : Logged) : Type 0 where
  pub can : CanBe logged.turn
  pub long : logged.time < 2 ^ 64
  pub state : List ℕ
  pub short : length state ≤ 64
  pub state_bytes : AreBytes state
  pub is : bytes ≡ line_of logged.turn logged.time state

-- no cycle that advanced, or that was stalled, has this line
abbrev pub HasNoCycle : Bool → List ℕ → Type 0
HasNoCycle advanced bytes = (logged : Logged) → IsCycleLine bytes logged → logged.turn.advanced ≡ advanced → ⊥

-- a line begins with a digit
pub record IsResultLine (bytes : List ℕ) : Type 0 where
  pub low : 48 ≤ slice_index bytes 0
  pub high : slice_index bytes 0 ≤ 57

-- a word ends before this byte, or with the line
abbrev pub is_word_end : Option ℕ → Bool
is_word_end None = true
is_word_end (Some byte) = byte == 32 || byte == 10

-- the first word is `end`
abbrev pub is_end : List ℕ → Bool
is_end bytes = starts_with nat_eq bytes (codes "end") && is_word_end (slice_get bytes 3)

-- a line is blank, or its first word is `end`
abbrev pub IsEndLine : List ℕ → Type 0
IsEndLine bytes = (bytes ≡ []) ⊎ (slice_index bytes 0 ≡ 10) ⊎ IsTrue (is_end bytes)

-- the line tells this
abbrev pub IsLogged : List ℕ → LogLine → Type 0
IsLogged bytes (Cycle logged) = IsCycleLine bytes logged
IsLogged bytes Result = IsResultLine bytes
IsLogged bytes End = IsEndLine bytes

-- it tells neither a result nor the end of a run
pub record IsNoOther (bytes : List ℕ) : Type 0 where
  pub result : IsResultLine bytes → ⊥
  pub end : IsEndLine bytes → ⊥

-- it tells nothing
abbrev pub IsNoLine : List ℕ → Type 0
IsNoLine bytes = (told : LogLine) → IsLogged bytes told → ⊥

-- whether this stripe is the one that a stage comes into
abbrev pub is_into : Option (ℕ × ℕ) → ℕ → Bool
is_into None stripe = false
is_into (Some (stage, into)) stripe = nat_eq into stripe
