-- A log that is being read.
use Rattle.std.specs.Prelude.{◌≡◌, ◌+◌, ◌<◌, ◌≤◌, ◌^◌, ℕ, List, drop, length, slice_range}
use Rattle.pr_lens_text.specs.Places.{HasNoEnd, IsEndBefore}
use Rattle.pr_lens_log.specs.declared.excerpts.Choice.{Choice}
use Rattle.pr_lens_log.specs.declared.logs.Log.{Log}
use Rattle.pr_lens_log.specs.declared.readers.Reader.{Reader}
use Rattle.pr_lens_log.specs.Logs.{HasTale, IsLineOf, Tale, TellsTo, most_line_bytes}

abbrev pub choice_of : Reader → Choice
choice_of r = r.choice

-- so many more lines can be counted
pub record HasRoom (r : Reader) (more : ℕ) : Type 0 where
  pub few : r.log.totals.count + r.log.totals.results ≤ r.lines
  pub room : r.lines + more < 2 ^ 64

-- so many lines, which are so many bytes of a text, came into a log
pub record HasTaken (choice : Choice) (text : List ℕ) (lines to : ℕ) (log : Log) : Type 0 where
  pub tale : Tale
  pub tells : TellsTo text lines to tale
  pub has : HasTale choice 256 tale log

-- the lines before a line came into the log of a reader, and the line itself is pending
pub record IsAtLine (text : List ℕ) (from to : ℕ) (r : Reader) : Type 0 where
  pub taken : HasTaken r.choice text r.lines from r.log
  pub line : IsLineOf text from to
  pub short : to ≤ from + most_line_bytes
  pub pending : r.pending.items ≡ slice_range text from to

-- the whole lines of a text came into the log of a reader, and what stands behind the last line feed is pending
pub record HasRead (text : List ℕ) (r : Reader) : Type 0 where
  pub from : ℕ
  pub within : from ≤ length text
  pub begins : IsEndBefore text from
  pub taken : HasTaken r.choice text r.lines from r.log
  pub short : length text ≤ from + most_line_bytes
  pub pending : r.pending.items ≡ drop from text
  pub none : HasNoEnd text from (length text)

-- all bytes of a text came into the log of a reader
pub record HasReadAll (text : List ℕ) (r : Reader) : Type 0 where
  pub taken : HasTaken r.choice text r.lines (length text) r.log
