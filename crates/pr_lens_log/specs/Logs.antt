-- What the lines of a log tell.
use Rattle.std.specs.Prelude.{◌≡◌, ◌⊎◌, ◌+◌, ◌-◌, ◌<◌, ◌≤◌, ◌++◌, ◌∷◌, [], ⊤, ℕ, List, Option, IfSome, length, slice_index, slice_range}
use Rattle.pr_lens_text.specs.Places.{HasNoEnd}
use Rattle.pr_lens_log.specs.declared.excerpts.Choice.{Choice}
use Rattle.pr_lens_log.specs.declared.lines.Logged.{Logged}
use Rattle.pr_lens_log.specs.declared.logs.Log.{Log}
use Rattle.pr_lens_log.specs.declared.logs.LogFault.{LogFault}
use Rattle.pr_lens_log.specs.declared.logs.LogFault.TheVariants.{BadLine, NoCycle, Memory}
use Rattle.pr_lens_log.specs.Excerpts.{AreTotals, IsExcerpt, most, stripes_to}
use Rattle.pr_lens_log.specs.Lines.{IsCycleLine, IsResultLine, IsEndLine, IsNoLine}

-- the stage and the stripe are among those that are drawn
abbrev pub AreDrawn : Option (ℕ × ℕ) → Type 0
AreDrawn configured = IfSome configured (λ c. (c.0 < 32768) × (c.1 < 256))

-- no cycle has this line
abbrev pub IsOther : List ℕ → Type 0
IsOther line = (logged : Logged) → IsCycleLine line logged → ⊥

-- what lines tell: the cycles, how many results were written before each, and how many in all
pub record Tale : Type 0 where
  pub cycles : List Logged
  pub written : List ℕ
  pub results : ℕ

abbrev pub with_cycle : Tale → Logged → Tale
with_cycle t logged = record { cycles = t.cycles ++ logged ∷ []; written = t.written ++ t.results ∷ []; results = t.results }

abbrev pub with_result : Tale → Tale
with_result t = record { cycles = t.cycles; written = t.written; results = t.results + 1 }

-- what is told after a line
pub data TakesLine : List ℕ → Tale → Tale → Type 0 where
  adds : {line : List ℕ} {t : Tale} {logged : Logged} → IsCycleLine line logged → AreDrawn logged.turn.configured → TakesLine line t (with_cycle t logged)
  counts : {line : List ℕ} {t : Tale} → IsResultLine line → IsOther line → TakesLine line t (with_result t)
  keeps : {line : List ℕ} {t : Tale} → IsEndLine line → IsOther line → TakesLine line t t

-- the line of a cycle whose stage or stripe is not drawn
pub record IsUndrawn (line : List ℕ) : Type 0 where
  pub logged : Logged
  pub is : IsCycleLine line logged
  pub undrawn : AreDrawn logged.turn.configured → ⊥

-- no line of a log that is drawn
abbrev pub IsUnlawful : List ℕ → Type 0
IsUnlawful line = IsNoLine line ⊎ IsUndrawn line

-- a line of a text, its line feed included where it has one
pub record IsLineOf (text : List ℕ) (from to : ℕ) : Type 0 where
  pub some : from < to
  pub within : to ≤ length text
  pub none : HasNoEnd text from (to - 1)
  pub ends : (to ≡ length text) ⊎ (slice_index text (to - 1) ≡ 10)

-- the bytes of a line, at most
abbrev pub most_line_bytes : ℕ
most_line_bytes = 65536

-- a line has too many bytes, or is no line of a log that is drawn
abbrev pub IsWrong : List ℕ → ℕ → ℕ → Type 0
IsWrong text from to = (from + most_line_bytes < to) ⊎ IsUnlawful (slice_range text from to)

abbrev pub nothing_told : Tale
nothing_told = record { cycles = []; written = []; results = 0 }

-- so many lines, which are so many bytes of a text, tell this, in order, and nothing else
pub data TellsTo : List ℕ → ℕ → ℕ → Tale → Type 0 where
  nothing : {text : List ℕ} → TellsTo text 0 0 nothing_told
  one_more : {text : List ℕ} {lines from to : ℕ} {before after : Tale} → TellsTo text lines from before → IsLineOf text from to
      → to ≤ from + most_line_bytes → TakesLine (slice_range text from to) before after → TellsTo text (lines + 1) to after

-- ---- whole texts
-- the lines of a text tell this, a cycle among them
pub record IsTaleOf (text : List ℕ) (tale : Tale) : Type 0 where
  pub some : 0 < length tale.cycles
  pub lines : ℕ
  pub tells : TellsTo text lines (length text) tale

-- the lines before this one, counted from 1, are those of a log, and this one is not
pub record IsBadAt (text : List ℕ) (line : ℕ) : Type 0 where
  pub before : ℕ
  pub from : ℕ
  pub to : ℕ
  pub told : Tale
  pub tells : TellsTo text before from told
  pub here : IsLineOf text from to
  pub wrong : IsWrong text from to
  pub number : line ≡ before + 1

-- all lines are those of a log, and none is that of a cycle
pub record TellsNoCycle (text : List ℕ) : Type 0 where
  pub lines : ℕ
  pub told : Tale
  pub tells : TellsTo text lines (length text) told
  pub none : told.cycles ≡ []

-- why a line of a text is none of a log, but that memory may want
abbrev pub IsLineFault : List ℕ → LogFault → Type 0
IsLineFault text NoCycle = ⊥
IsLineFault text (BadLine line) = IsBadAt text line
IsLineFault text (Memory e) = ⊤

-- why a text is no log, but that memory may want
abbrev pub IsLogAnswer : List ℕ → LogFault → Type 0
IsLogAnswer text NoCycle = TellsNoCycle text
IsLogAnswer text fault = IsLineFault text fault

-- ---- logs
-- a log has what is told, and keeps what is chosen of it, with what the cycles before left behind on so many stripes
pub record HasTale (choice : Choice) (stripes : ℕ) (tale : Tale) (log : Log) : Type 0 where
  pub totals : AreTotals tale.cycles tale.results log.totals
  pub excerpt : IsExcerpt choice stripes tale.cycles tale.written log.excerpt

-- it keeps it on those stripes that are named
abbrev pub IsKept : Choice → Tale → Log → Type 0
IsKept choice tale log = HasTale choice (most stripes_to tale.cycles) tale log

-- the log of a text
pub record IsLogOf (choice : Choice) (text : List ℕ) (log : Log) : Type 0 where
  pub tale : Tale
  pub is : IsTaleOf text tale
  pub kept : IsKept choice tale log

-- a line came into a log
pub record IsTaken (choice : Choice) (line : List ℕ) (before : Tale) (log : Log) : Type 0 where
  pub after : Tale
  pub takes : TakesLine line before after
  pub has : HasTale choice 256 after log
