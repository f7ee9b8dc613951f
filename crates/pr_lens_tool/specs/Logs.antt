-- What is drawn of logs.
use Rattle.std.specs.Prelude.{◌≡◌, ◌≤◌, ◌<◌, ◌+◌, ◌-◌, ⊤, ℕ, List, Option, Some, None, IfSome, IsSome, length}
use Rattle.pr_edge.specs.Files.{Told, HasReadCause, IsPrefix, OfFile}
use Rattle.pr_tool_answers.specs.declared.answers.Answer.{Answer}
use Rattle.pr_tool_modes.specs.Files.{IsText, IsLong}
use Rattle.pr_lens_log.specs.declared.excerpts.Choice.{Choice}
use Rattle.pr_lens_log.specs.declared.logs.Log.{Log}
use Rattle.pr_lens_log.specs.declared.logs.LogFault.{LogFault}
use Rattle.pr_lens_log.specs.declared.logs.LogFault.TheVariants as fault
use Rattle.pr_lens_log.specs.declared.readers.Reader.{Reader}
use Rattle.pr_lens_log.specs.declared.windows.Part.{Part}
use Rattle.pr_lens_log.specs.declared.windows.Window.{Window}
use Rattle.pr_lens_log.specs.Excerpts.{most, stages_to, stripes_to}
use Rattle.pr_lens_log.specs.Logs.{IsBadAt, IsKept, IsTaleOf, Tale, TellsNoCycle}
use Rattle.pr_lens_log.specs.Readers.{HasRead}
use Rattle.pr_lens_log.specs.Windows.{part_of, time_at}
use Rattle.pr_lens_wave.specs.Scenes.{wave_text}
use Rattle.pr_lens_chart.specs.Pictures.{chart_text}
use Rattle.pr_lens_tool.specs.declared.orders.Drawing.{Drawing}
use Rattle.pr_lens_tool.specs.declared.orders.Drawing.TheVariants.{Wave, Chart}
use Rattle.pr_lens_tool.specs.declared.outcomes.Outcome.{Outcome}
use Rattle.pr_lens_tool.specs.declared.outcomes.Outcome.TheVariants.{Plain, BadLog, NoCycle, Unshown, LongLog}

-- the bytes of a log, at most
abbrev pub most_log_bytes : ℕ
most_log_bytes = 17592186044416

-- ---- a log that is read
-- so many bytes of a file were read, and came to a reader
pub record IsReadTo (told : Told) (name : List ℕ) (place : ℕ) (r : Reader) : Type 0 where
  pub bytes : List ℕ
  pub count : length bytes ≡ place
  pub file : OfFile told name (IsPrefix bytes)
  pub read : HasRead bytes r

-- a file that was read in order up to a place was read on from there in order, by at most 4,096 bytes
abbrev pub IsReadOnFrom : ℕ → Option ℕ → Option ℕ → Type 0
IsReadOnFrom place before now = before ≡ Some place → (IsSome now × IfSome now (λ r. r ≤ place + 4096))

-- the file has a text, and this is so of it
pub record HasText (told : Told) (name : List ℕ) (fact : List ℕ → Type 0) : Type 0 where
  pub text : List ℕ
  pub file : IsText told name text
  pub is : fact text

-- the file has a text of no more bytes than a log may have, and this is so of it
pub record HasShortText (told : Told) (name : List ℕ) (fact : List ℕ → Type 0) : Type 0 where
  pub text : List ℕ
  pub file : IsText told name text
  pub short : length text ≤ most_log_bytes
  pub is : fact text

-- the file has the text of a log that tells this
abbrev pub TellsLog : Told → List ℕ → Tale → Type 0
TellsLog told name tale = HasShortText told name (λ text. IsTaleOf text tale)

-- this log is kept of the file
pub record HasLog (choice : Choice) (told : Told) (name : List ℕ) (log : Log) : Type 0 where
  pub tale : Tale
  pub tells : TellsLog told name tale
  pub kept : IsKept choice tale log

-- the file has the text of no log, by this line. What stands behind the line is not read.
abbrev pub HasBadLine : Told → List ℕ → ℕ → Type 0
HasBadLine told name line = HasText told name (λ text. IsBadAt text line)

-- the file has the text of a log without a cycle
abbrev pub HasNoCycle : Told → List ℕ → Type 0
HasNoCycle told name = HasShortText told name TellsNoCycle

-- what a call comes to where a log is none
abbrev pub outcome_of : LogFault → Outcome
outcome_of (fault.BadLine line) = BadLog line
outcome_of fault.NoCycle = NoCycle
outcome_of (fault.Memory e) = Plain Answer.Memory

-- ---- what is drawn
-- all cycles that a window shows stand in a waveform, the first 400 of them in a picture
abbrev pub choice_of : Drawing → Window → Choice
choice_of Wave window = record { window = window; most = None }
choice_of Chart window = record { window = window; most = Some 400 }

-- these cycles of a log are drawn so
abbrev pub drawn_text : Drawing → Part → Tale → List ℕ
drawn_text Wave part tale = wave_text part (most stripes_to tale.cycles) tale.cycles tale.written
drawn_text Chart part tale = chart_text part (most stages_to tale.cycles) (most stripes_to tale.cycles) tale.cycles

-- the cycles of the log of a file that a window shows are drawn, and there are some
pub record IsDrawing (drawing : Drawing) (window : Window) (told : Told) (name written : List ℕ) : Type 0 where
  pub tale : Tale
  pub tells : TellsLog told name tale
  pub some : (part_of window tale.cycles).start < (part_of window tale.cycles).end
  pub is : written ≡ drawn_text drawing (part_of window tale.cycles) tale

-- a window shows no cycle of the log of a file, whose first cycle has this number, and its last one that
pub record HasUnshown (window : Window) (told : Told) (name : List ℕ) (first last : ℕ) : Type 0 where
  pub tale : Tale
  pub tells : TellsLog told name tale
  pub none : (part_of window tale.cycles).end ≤ (part_of window tale.cycles).start
  pub first_is : first ≡ time_at tale.cycles 0
  pub last_is : last ≡ time_at tale.cycles (length tale.cycles - 1)

-- why nothing is read of the log of a file
abbrev pub IsNoLog : Told → List ℕ → ℕ → ℕ → Outcome → Type 0
IsNoLog told name before now (Plain Answer.ReadFault) = HasReadCause told name before now
IsNoLog told name before now (Plain Answer.Memory) = ⊤
IsNoLog told name before now (BadLog line) = HasBadLine told name line
IsNoLog told name before now NoCycle = HasNoCycle told name
IsNoLog told name before now LongLog = IsLong told name most_log_bytes
IsNoLog told name before now outcome = ⊥

-- why nothing is drawn of it
abbrev pub IsUndrawn : Window → Told → List ℕ → ℕ → ℕ → Outcome → Type 0
IsUndrawn window told name before now (Unshown first last) = HasUnshown window told name first last
IsUndrawn window told name before now outcome = IsNoLog told name before now outcome
