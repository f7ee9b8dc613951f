-- What a run of a configuration on the samples of a file comes to.
use Rattle.std.specs.Prelude.{◌≡◌, ◌⊎◌, ◌≤◌, ℕ, Bool, true, false, List, [], ◌++◌, length, take, Some}
use Rattle.pr_edge.specs.Files.{IsMissing, HasReadCause, View}
use Rattle.pr_edge.specs.Tape.{Tape, Appends, AppendsFront}
use Rattle.pr_base.specs.Rows.{written}
use Rattle.pr_conf.specs.Shape.{Shape}
use Rattle.pr_conf.specs.Through.{result_numbers}
use Rattle.pr_samples.specs.Fed.{Ending, End, BadSample, Limit}
use Rattle.pr_samples.specs.Feed.{Tells, most_of, name_of}
use Rattle.pr_machine.specs.Stands.{Stands, History, conf_of, stripes_of}
use Rattle.pr_run_script.specs.Script.{Held, script, most_cycles}
use Rattle.pr_run_script.specs.Counts.{IsPrefix, cycles_in}
use Rattle.pr_run_script.specs.Text.{history_lines, closing_lines, text_of, run_text}
use Rattle.pr_run.specs.declared.ending.RunEnd.{RunEnd}
use Rattle.pr_run.specs.Setting.{stall_turns}
use Rattle.pr_run.specs.Turns.{Going}
use Rattle.pr_tool_answers.specs.declared.answers.Answer.{Answer}
use Rattle.pr_tool_modes.specs.declared.ready.Ready.{Ready}
use Rattle.pr_tool_modes.specs.Samples.{fed_at_most, fed_to, pieces}
use Rattle.pr_tool_modes.specs.Unlogged.{GainsLines, GainsFirst}

abbrev pub answer_by : RunEnd → Answer
answer_by (RunEnd.Done cycles stalls results) = Answer.Ok
answer_by (RunEnd.BadSample line) = Answer.BadSample line
answer_by RunEnd.ReadFault = Answer.ReadFault
answer_by RunEnd.WriteFault = Answer.WriteFault
answer_by (RunEnd.Limit cap) = Answer.Limit cap

-- a configuration on stripes under the turns of a stall text, with the log or without it, how many samples are fed at most, the
-- name of their file, what the shelf shows as the run begins and when it is over, and what the sink tells then
pub record Course : Type 0 where
  pub conf : Shape
  pub stripes : ℕ
  pub turns : List Held
  pub log : Bool
  pub most : ℕ
  pub name : List ℕ
  pub start : View
  pub now : View
  pub old : Tape
  pub new : Tape

abbrev pub course : Shape → ℕ → List Held → Bool → ℕ → List ℕ → View → View → Tape → Tape → Course
course c p turns log most name start now old new = record {
  conf = c;
  stripes = p;
  turns = turns;
  log = log;
  most = most;
  name = name;
  start = start;
  now = now;
  old = old;
  new = new;
}

-- the course of a run for which all is made
abbrev pub course_from : {N P : ℕ} → Ready N P → Bool → View → View → Tape → Tape → Course
course_from ready log start now old new =
    course (conf_of ready.machine) (stripes_of ready.machine) (stall_turns ready.stall) log (most_of ready.feed) (name_of ready.feed) start now old new

-- the events of a run on these samples
abbrev pub events_on : Course → List (List ℕ) → History
events_on r rows = script (length r.conf.stages) r.stripes (pieces r.conf rows) r.turns

-- the text of a run on these samples, with the line at the end of the log where they are all and good
abbrev pub text_on : ℕ → ℕ → Course → List (List ℕ) → Bool → List ℕ
text_on N P r rows good = run_text N P r.log r.conf r.stripes (pieces r.conf rows) r.turns good

-- the lines of their results, which are the text without the lines of the log
abbrev pub results_on : ℕ → ℕ → Course → List (List ℕ) → List ℕ
results_on N P r rows = written (result_numbers N P r.conf (pieces r.conf rows))

-- all samples of a file are good
abbrev pub ends_well : Ending → Bool
ends_well End = true
ends_well ending = false

-- the file is not told to be missing, no read of it failed, and where it is told these are all its samples, and they end so
pub record HasAll (r : Course) (rows : List (List ℕ)) (ending : Ending) : Type 0 where
  pub there : IsMissing r.start.told r.name → ⊥
  pub steady : r.now.faults ≡ r.start.faults
  pub all : (file : List ℕ) → Tells r.start.told r.name file → rows ≡ (fed_at_most r.most r.conf.inputs file).samples
  pub ends : (file : List ℕ) → Tells r.start.told r.name file → (fed_at_most r.most r.conf.inputs file).ending ≡ ending

-- the machine was asked all events of a run on these samples, and their lines are written
pub record IsWhole (N P : ℕ) (r : Course) (rows : List (List ℕ)) (history : History) (good : Bool) : Type 0 where
  pub events : history ≡ events_on r rows
  pub text : Appends r.old r.new (text_on N P r rows good)
  pub results : GainsLines r.log r.old r.new (results_on N P r rows)

-- a read failed after these samples: where the file was read from its beginning alone, they are those of the lines that
-- stand with their LF in the bytes that were reached
pub record IsBroken (r : Course) (rows : List (List ℕ)) : Type 0 where
  pub cause : HasReadCause r.start.told r.name r.start.faults r.now.faults
  pub reached : (reach : ℕ) → r.start.reach r.name ≡ Some 0 → r.now.reach r.name ≡ Some reach → (file : List ℕ) → Tells r.start.told r.name file
      → length rows ≡ length (fed_to r.most r.conf.inputs file reach).samples

-- what was done is the beginning of a run on these samples
pub record IsBegun (N P : ℕ) (r : Course) (rows : List (List ℕ)) (history : History) (good : Bool) : Type 0 where
  pub events : IsPrefix history (events_on r rows)
  pub text : AppendsFront r.old r.new (text_on N P r rows good)
  pub results : GainsFirst r.log r.old r.new (results_on N P r rows)

-- a write failed after these samples: some first bytes of the lines are written, and the machine was asked to take each
-- result whose line is whole; the log's last line is begun only where all else is over, and the samples are all and good. It was
-- the beginning of a run on these samples, and, unless a read failed too, on all
pub record IsStopped (N P : ℕ) (r : Course) (rows : List (List ℕ)) (history : History) : Type 0 where
  pub closing : Bool
  pub text : AppendsFront r.old r.new (text_of r.log (history_lines N P r.conf r.stripes history ++ closing_lines r.conf r.stripes history closing))
  pub over : closing ≡ true → HasAll r rows End × (history ≡ events_on r rows)
  pub begun : IsBegun N P r rows history closing
  pub all : HasReadCause r.start.told r.name r.start.faults r.now.faults
      ⊎ ((file : List ℕ) → Tells r.start.told r.name file → IsBegun N P r (fed_at_most r.most r.conf.inputs file).samples history (ends_well (fed_at_most r.most r.conf.inputs file).ending))

-- what an answer says
abbrev pub IsEnd : ℕ → ℕ → Course → List (List ℕ) → History → Answer → Type 0
IsEnd N P r rows history Answer.Ok = HasAll r rows End × IsWhole N P r rows history true
IsEnd N P r rows history (Answer.Limit which) = HasAll r rows (Limit which) × IsWhole N P r rows history false
IsEnd N P r rows history (Answer.BadSample line) = HasAll r rows (BadSample line) × IsWhole N P r rows history false
IsEnd N P r rows history Answer.ReadFault = IsBroken r rows × IsWhole N P r rows history false
IsEnd N P r rows history Answer.WriteFault = IsStopped N P r rows history
IsEnd N P r rows history answer = ⊥

-- a run: the first samples of the file, the history for which the machine stands, with no more cycles than are enough for
-- these samples, and what the answer says of them
pub record IsRun {N P : ℕ} (r : Course) (machine : Going N P) (answer : Answer) : Type 0 where
  pub rows : List (List ℕ)
  pub history : History
  pub stands : Stands machine r.conf r.stripes history
  pub first : (file : List ℕ) → Tells r.start.told r.name file → rows ≡ take (length rows) (fed_at_most r.most r.conf.inputs file).samples
  pub unread : IsMissing r.start.told r.name → rows ≡ []
  pub cycles : cycles_in history ≤ most_cycles (length r.conf.stages) r.stripes r.turns (length rows)
  pub end : IsEnd N P r rows history answer
