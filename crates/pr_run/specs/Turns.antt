-- What holds between the steps of a run's turns.
use Rattle.std.specs.Prelude.{◌≡◌, ◌≢◌, ◌≤◌, ℕ, Bool, true, false, not, List, [], ◌++◌, length, take, replicate, ⊤, Some, if◌then◌else◌}
use Rattle.pr_edge.specs.Files.{IsMissing, HasReadCause, View}
use Rattle.pr_edge.specs.Tape.{Tape, Appends, AppendsFront}
use Rattle.pr_log.specs.Lines.{end_line_of}
use Rattle.pr_samples.specs.declared.feed.Feed.{Feed}
use Rattle.pr_samples.specs.declared.feed.Got.{Got}
use Rattle.pr_samples.specs.Feed.{name_of, given_of, place_of, reads_nothing, SameFile, Tells, fed, StandsFor, Gives}
use Rattle.pr_samples.specs.Got.{is_sample}
use Rattle.pr_machine_account.specs.Account.{Take, account}
use Rattle.pr_machine.specs.declared.machine.Machine.{Machine}
use Rattle.pr_machine.specs.declared.machine.Running.{Running}
use Rattle.pr_machine.specs.declared.loaded.Loaded.{Loaded}
use Rattle.pr_machine.specs.Stands.{Stands, History}
use Rattle.pr_run_script.specs.Script.{Run, waiting}
use Rattle.pr_run_script.specs.Counts.{IsPrefix}
use Rattle.pr_run_script.specs.Text.{history_lines, text_of}
use Rattle.pr_run.specs.Setting.{Setting, stages_of, pieces}

-- a running machine
abbrev pub Going : ℕ → ℕ → Type 0
Going N P = Machine N P Running (Loaded N P)

-- ---- the machine and the sink
-- the machine was asked these events, and their lines were written
pub record HasDone {N P : ℕ} (s : Setting) (m : Going N P) (t : Tape) (h : History) : Type 0 where
  pub stands : Stands m s.conf s.stripes h
  pub text : Appends s.tape t (text_of s.log (history_lines N P s.conf s.stripes h))

-- the machine was asked events with which this history begins, and of their lines some first bytes were written
pub record HasBegun {N P : ℕ} (s : Setting) (m : Going N P) (t : Tape) (whole : History) : Type 0 where
  pub history : History
  pub front : IsPrefix history whole
  pub stands : Stands m s.conf s.stripes history
  pub text : AppendsFront s.tape t (text_of s.log (history_lines N P s.conf s.stripes history))

-- after a history all results that wait are taken
abbrev pub all_taken : Setting → History → History
all_taken s h = h ++ replicate (waiting (stages_of s) (account (stages_of s) s.stripes h)) Take

-- they are, unless the output side is held
abbrev pub taken_unless : Bool → Setting → History → History
taken_unless true s h = h
taken_unless false s h = all_taken s h

-- the last line of the log, where the log is asked for
abbrev pub logged_end : Bool → ℕ → ℕ → ℕ → List ℕ
logged_end log cycles stalls results = if log then end_line_of cycles stalls results else []

-- ---- the feed
-- what the last answer of a feed says of its file; a sample says that more may follow
abbrev pub EndsBy : Got → Feed → List ℕ → Type 0
EndsBy Got.Sample f file = StandsFor f file
EndsBy Got.End f file = Gives Got.End (given_of f) f [] file
EndsBy (Got.BadSample line) f file = Gives (Got.BadSample line) (given_of f) f [] file
EndsBy Got.ReadFault f file = Gives Got.ReadFault (given_of f) f [] file
EndsBy (Got.Limit cap) f file = Gives (Got.Limit cap) (given_of f) f [] file

-- the feed gave these samples, the first of this file
pub record IsRead (s : Setting) (f : Feed) (file : List ℕ) (rows : List (List ℕ)) (last : Got) : Type 0 where
  pub first : rows ≡ take (given_of f) (fed s.feed file).samples
  pub ends : EndsBy last f file

-- what a feed answered last whose file is told not to be there
abbrev pub IsUnread : Got → Feed → Type 0
IsUnread Got.Sample f = reads_nothing f
IsUnread Got.End f = ⊥
IsUnread (Got.BadSample line) f = ⊥
IsUnread Got.ReadFault f = ⊤
IsUnread (Got.Limit cap) f = ⊥

-- the feed gave these samples from a shelf that now shows this
pub record HasRead (s : Setting) (f : Feed) (now : View) (rows : List (List ℕ)) (last : Got) : Type 0 where
  pub file : SameFile s.feed f
  pub count : given_of f ≡ length rows
  pub samples : (file : List ℕ) → Tells s.shelf.told (name_of s.feed) file → IsRead s f file rows last
  pub missing : IsMissing s.shelf.told (name_of s.feed) → IsUnread last f × (rows ≡ [])
  pub told : now.told ≡ s.shelf.told
  pub cause : last ≡ Got.ReadFault → HasReadCause s.shelf.told (name_of s.feed) s.shelf.faults now.faults
  pub steady : last ≢ Got.ReadFault → now.faults ≡ s.shelf.faults
  pub later : s.shelf.faults ≤ now.faults
  pub reached : s.shelf.reach (name_of s.feed) ≡ Some (place_of s.feed) → now.reach (name_of s.feed) ≡ Some (place_of f)
  pub others : (q : List ℕ) → q ≢ name_of s.feed → now.reach q ≡ s.shelf.reach q

-- samples may follow while the feed answers with samples
abbrev pub MayFollow : Got → List (List ℕ) → Type 0
MayFollow Got.Sample more = ⊤
MayFollow Got.End more = more ≡ []
MayFollow (Got.BadSample line) more = more ≡ []
MayFollow Got.ReadFault more = more ≡ []
MayFollow (Got.Limit cap) more = more ≡ []

-- ---- a run
-- a run that goes on after this history, with these samples not read
abbrev pub run_at : History → List (List ℕ) → Got → Run (List ℕ)
run_at h more last = record { history = h; rest = more; ended = not (is_sample last); over = false }

-- machine, feed and sink are where the run is, which for each list of samples is this one; whatever samples may follow
pub record IsOn {N P : ℕ} (s : Setting) (runs : List (List ℕ) → Run (List ℕ)) (m : Going N P) (f : Feed) (now : View)
    (t : Tape) (last : Got) : Type 0 where
  pub rows : List (List ℕ)
  pub history : History
  pub done : HasDone s m t history
  pub read : HasRead s f now rows last
  pub offered : (account (stages_of s) s.stripes history).offered ≡ pieces s rows
  pub run : (more : List (List ℕ)) → MayFollow last more → runs (pieces s rows ++ more) ≡ run_at history more last

-- the run is over, and was not while it was the first of these
pub record IsDone {N P : ℕ} (s : Setting) (first runs : List (List ℕ) → Run (List ℕ)) (m : Going N P) (f : Feed)
    (now : View) (t : Tape) (last : Got) : Type 0 where
  pub rows : List (List ℕ)
  pub history : History
  pub done : HasDone s m t history
  pub read : HasRead s f now rows last
  pub ended : is_sample last ≡ false
  pub before : (first (pieces s rows)).over ≡ false
  pub run : runs (pieces s rows) ≡ record { history = history; rest = []; ended = true; over = true }

-- a write failed on the way to where the run is
pub record IsCut {N P : ℕ} (s : Setting) (runs : List (List ℕ) → Run (List ℕ)) (m : Going N P) (f : Feed)
    (now : View) (t : Tape) : Type 0 where
  pub rows : List (List ℕ)
  pub last : Got
  pub history : History
  pub stands : Stands m s.conf s.stripes history
  pub text : AppendsFront s.tape t (text_of s.log (history_lines N P s.conf s.stripes history))
  pub read : HasRead s f now rows last
  pub front : (more : List (List ℕ)) → MayFollow last more → IsPrefix history (runs (pieces s rows ++ more)).history
