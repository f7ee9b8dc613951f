-- What a whole run comes to.
use Rattle.std.specs.Prelude.{◌≡◌, ◌≤◌, ℕ, Bool, true, false, List, [], ◌++◌, length, ⊤, Result, Ok, Err, IfOk, OnErr}
use Rattle.pr_control.specs.Counts.{cycles_of}
use Rattle.pr_edge.specs.Count.{Rose}
use Rattle.pr_edge.specs.Tape.{Tape, Appends, AppendsFront}
use Rattle.pr_edge.specs.declared.writing.WriteFault.{WriteFault}
use Rattle.pr_samples.specs.declared.feed.Feed.{Feed}
use Rattle.pr_samples.specs.declared.feed.Got.{Got}
use Rattle.pr_samples.specs.declared.stall.Stall.{Stall}
use Rattle.pr_samples.specs.Stall.{turns_left}
use Rattle.pr_samples.specs.Fed.{End, BadSample, Limit, fed_within}
use Rattle.pr_samples.specs.Feed.{given_of, place_of, widths_of, limit_of, most_of, IsOver}
use Rattle.pr_samples.specs.Got.{is_sample}
use Rattle.pr_machine_account.specs.Account.{account}
use Rattle.pr_conf.specs.Through.{output_widths}
use Rattle.pr_machine.specs.Stands.{Stands, History, conf_of, stripes_of, time_of}
use Rattle.pr_run_script.specs.Script.{Run, most_cycles, whole_run, script}
use Rattle.pr_run_script.specs.Counts.{cycles_in, stalls_in, IsPrefix}
use Rattle.pr_run_script.specs.Text.{history_lines, closing_lines, text_of, run_text}
use Rattle.pr_run.specs.declared.ending.RunEnd.{RunEnd}
use Rattle.pr_run.specs.declared.ending.Finished.{Finished}
use Rattle.pr_edge.specs.Files.{View}
use Rattle.pr_run.specs.Setting.{Setting, IsFresh, stages_of, pieces}
use Rattle.pr_run.specs.Turns.{Going, HasDone, HasRead, MayFollow, IsCut}

-- ---- before the last line
-- the whole run on these samples
abbrev pub script_run : Setting → List (List ℕ) → Run (List ℕ)
script_run s xs = whole_run (stages_of s) s.stripes xs s.stall

-- the run is over, and its samples have ended so after so many cycles that were asked for
pub record IsFinished {N P : ℕ} (s : Setting) (m : Going N P) (f : Feed) (now : View) (t : Tape)
    (end : Finished) : Type 0 where
  pub rows : List (List ℕ)
  pub history : History
  pub done : HasDone s m t history
  pub read : HasRead s f now rows end.last
  pub ended : is_sample end.last ≡ false
  pub script : history ≡ (script_run s (pieces s rows)).history
  pub asked : cycles_in history ≡ end.asked

-- what the turns of a run begin with: a machine that was just loaded, a feed that was not asked yet and has its inputs,
-- the widths of its outputs, and no answer of the feed that ends the samples
pub record MayBegin {N P : ℕ} (m : Going N P) (f : Feed) (stall : Stall) (widths : List ℕ) (last : Got) : Type 0 where
  pub loaded : Stands m (conf_of m) (stripes_of m) []
  pub fresh : IsFresh f
  pub inputs : widths_of f ≡ (conf_of m).inputs
  pub outputs : widths ≡ output_widths (conf_of m)
  pub turns : length (turns_left stall) ≤ 1048576
  pub first : last ≡ Got.Sample

-- what the turns leave of the machine, how their end is told, and the faults of the sink before and after
pub record HasTurned {N P : ℕ} (before after : Going N P) (was faults : ℕ) (result : Result Finished WriteFault)
    : Type 0 where
  pub last : IfOk result (λ e. is_sample e.last ≡ false)
  pub asked : IfOk result (λ e. time_of after ≤ e.asked)
  pub conf : after.parts.conf ≡ before.parts.conf
  pub stripes : stripes_of after ≡ stripes_of before
  pub cause : OnErr result (Rose was faults)
  pub later : was ≤ faults

-- the turns of a run came to this
abbrev pub IsEnded : {N P : ℕ} → Setting → Going N P → Feed → View → Tape → Result Finished WriteFault → Type 0
IsEnded s m f now t (Ok end) = IsFinished s m f now t end
IsEnded s m f now t (Err fault) = IsCut s (script_run s) m f now t

-- ---- a whole run
-- the events of a run on these samples
abbrev pub events_of : Setting → List (List ℕ) → History
events_of s xs = script (stages_of s) s.stripes xs s.stall

-- the text of a run on these samples, with the line at the end where `good` holds
abbrev pub lines_of : ℕ → ℕ → Setting → List (List ℕ) → Bool → List ℕ
lines_of N P s xs good = run_text N P s.log s.conf s.stripes xs s.stall good

-- the cycles that advanced, those that were stalled, and the results
pub record HasNumbers (s : Setting) (h : History) (advanced stalled taken : ℕ) : Type 0 where
  pub cycles : advanced ≡ (account (stages_of s) s.stripes h).time
  pub stalls : stalled ≡ stalls_in (stages_of s) s.stripes h
  pub results : taken ≡ (account (stages_of s) s.stripes h).taken

-- the machine was asked all events of the run on these samples, and their text is written
pub record IsWhole (N P : ℕ) (s : Setting) (rows : List (List ℕ)) (h : History) (t : Tape) (good : Bool) : Type 0 where
  pub events : h ≡ events_of s (pieces s rows)
  pub text : Appends s.tape t (lines_of N P s (pieces s rows) good)

-- a write failed. The machine was asked events with which the run begins, and the first bytes of their lines are
-- written, so that each whole line of a result has its take; only where all samples were good and all events are over,
-- the line at the end is begun. All this holds whatever samples may follow those that were read
pub record IsStopped (N P : ℕ) (s : Setting) (rows : List (List ℕ)) (last : Got) (h : History) (t : Tape) : Type 0 where
  pub closing : Bool
  pub text : AppendsFront s.tape t
      (text_of s.log (history_lines N P s.conf s.stripes h ++ closing_lines s.conf s.stripes h closing))
  pub over : closing ≡ true → (last ≡ Got.End) × (h ≡ events_of s (pieces s rows))
  pub events : (more : List (List ℕ)) → MayFollow last more → IsPrefix h (events_of s (pieces s rows ++ more))
  pub front : (more : List (List ℕ)) (good : Bool) → MayFollow last more → (closing ≡ true → good ≡ true)
      → AppendsFront s.tape t (lines_of N P s (pieces s rows ++ more) good)

-- what an answer says, where the feed gave these samples and answered so last
abbrev pub IsAnswer : ℕ → ℕ → Setting → List (List ℕ) → Got → History → Tape → RunEnd → Type 0
IsAnswer N P s rows last h t (RunEnd.Done cycles stalls results) = (last ≡ Got.End) × IsWhole N P s rows h t true
    × HasNumbers s h cycles stalls results
IsAnswer N P s rows last h t (RunEnd.BadSample line) = (last ≡ Got.BadSample line) × IsWhole N P s rows h t false
IsAnswer N P s rows last h t RunEnd.ReadFault = (last ≡ Got.ReadFault) × IsWhole N P s rows h t false
IsAnswer N P s rows last h t RunEnd.WriteFault = IsStopped N P s rows last h t
IsAnswer N P s rows last h t (RunEnd.Limit cap) = (last ≡ Got.Limit cap) × IsWhole N P s rows h t false

-- a run, from what it was given to its answer: the samples that the feed gave, its last answer, and the history for
-- which the machine stands
pub record Ran {N P : ℕ} (s : Setting) (m : Going N P) (f : Feed) (now : View) (t : Tape)
    (result : RunEnd) : Type 0 where
  pub rows : List (List ℕ)
  pub last : Got
  pub history : History
  pub read : HasRead s f now rows last
  pub stands : Stands m s.conf s.stripes history
  pub cycles : cycles_in history ≤ most_cycles (stages_of s) s.stripes s.stall (given_of f)
  pub answer : IsAnswer N P s rows last history t result

-- ---- what it says of the file
-- all samples were given at three of the answers, and at a read fault those of the lines that stand with their LF in
-- what was read
abbrev pub EndsRun : RunEnd → Feed → List ℕ → Type 0
EndsRun (RunEnd.Done cycles stalls results) f file = IsOver f file End
EndsRun (RunEnd.BadSample line) f file = IsOver f file (BadSample line)
EndsRun RunEnd.ReadFault f file =
    given_of f ≡ length (fed_within (widths_of f) (limit_of f) (most_of f) file (place_of f)).samples
EndsRun RunEnd.WriteFault f file = ⊤
EndsRun (RunEnd.Limit cap) f file = IsOver f file (Limit cap)

-- the answers that a file which is not there leaves
abbrev pub IsFault : RunEnd → Type 0
IsFault (RunEnd.Done cycles stalls results) = ⊥
IsFault (RunEnd.BadSample line) = ⊥
IsFault RunEnd.ReadFault = ⊤
IsFault RunEnd.WriteFault = ⊤
IsFault (RunEnd.Limit cap) = ⊥

-- the numbers of a run without a stall text on so many samples
abbrev pub IsCounted : ℕ → ℕ → ℕ → RunEnd → Type 0
IsCounted v p samples (RunEnd.Done cycles stalls results) = (cycles ≡ cycles_of v p samples) × (stalls ≡ 0)
    × (results ≡ samples)
IsCounted v p samples (RunEnd.BadSample line) = ⊤
IsCounted v p samples RunEnd.ReadFault = ⊤
IsCounted v p samples RunEnd.WriteFault = ⊤
IsCounted v p samples (RunEnd.Limit cap) = ⊤
