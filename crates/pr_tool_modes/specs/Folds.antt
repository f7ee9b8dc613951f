-- What a mode comes to that writes a checkpoint: a configuration is run on samples, and its results are dropped.
use Rattle.std.specs.Prelude.{◌≡◌, ◌⊎◌, ◌+◌, ℕ, false, List, length, Option, Some}
use Rattle.pr_edge.specs.Files.{HasReadCause, View}
use Rattle.pr_edge.specs.Tape.{Appends, AppendsFront, untold}
use Rattle.pr_conf.specs.Shape.{Shape}
use Rattle.pr_conf.specs.After.{conf_after}
use Rattle.pr_code.specs.Marks.{IsMark, mark_of}
use Rattle.pr_run_script.specs.Script.{Held}
use Rattle.pr_samples.specs.Fed.{Ending, End, BadSample, Limit}
use Rattle.pr_tool_answers.specs.declared.answers.Answer.{Answer}
use Rattle.pr_tool_modes.specs.declared.loadables.Loadable.{Loadable}
use Rattle.pr_tool_modes.specs.Calls.{Call}
use Rattle.pr_tool_modes.specs.Executions.{IsLater, IsRunRefusal}
use Rattle.pr_tool_modes.specs.Files.{ShowsFault}
use Rattle.pr_tool_modes.specs.Jobs.{Job, Resumption, resumed, IsNoStall, IsNeither}
use Rattle.pr_tool_modes.specs.Runs.{Course, course, HasAll}
use Rattle.pr_tool_modes.specs.Samples.{fed_at_most, pieces}
use Rattle.pr_tool_modes.specs.Sources.{Gives, count_in, most_in, columns_in, registers_in, shape_in}
use Rattle.pr_tool_modes.specs.Stalls.{HasStall, IsStallRefusal}
use Rattle.pr_tool_modes.specs.Texts.{IsPut}

-- the checkpoint of a configuration after these samples, and so many before them
abbrev pub mark_after : ℕ → ℕ → ℕ → Shape → List (List ℕ) → List ℕ
mark_after N P before c rows = mark_of N P (before + length rows) (conf_after N P c (pieces c rows))

-- all samples are good, and the bytes are the checkpoint after them
pub record HasMarked (N P : ℕ) (r : Course) (before : ℕ) (bytes : List ℕ) : Type 0 where
  pub rows : List (List ℕ)
  pub all : HasAll r rows End
  pub mark : IsMark N P (before + length rows) (conf_after N P r.conf (pieces r.conf rows)) bytes

-- samples end so
pub record HasEnded (r : Course) (ending : Ending) : Type 0 where
  pub rows : List (List ℕ)
  pub all : HasAll r rows ending

-- why no checkpoint comes of samples: they end otherwise, they could not be read, or they are all good and memory was wanting
abbrev pub IsUnmarked : Course → Answer → Type 0
IsUnmarked r (Answer.BadSample line) = HasEnded r (BadSample line)
IsUnmarked r (Answer.Limit which) = HasEnded r (Limit which)
IsUnmarked r Answer.ReadFault = HasReadCause r.start.told r.name r.start.faults r.now.faults
IsUnmarked r Answer.Memory = HasEnded r End
IsUnmarked r answer = ⊥

-- a run of this configuration whose results are dropped; `end` says what came of its samples
pub record HasRunFor (kept : List ℕ → Type 0) (c : Shape) (j : Job) (before now : View) (end : Course → Type 0) : Type 0 where
  pub turns : List Held
  pub stall : HasStall before.told j.stall turns
  pub start : View
  pub later : IsLater kept before start
  pub came : end (course c j.stripes turns false (most_in j.source) j.second start now untold untold)

-- ---- of a configuration
-- there is no stall text, or memory was wanting: no samples were asked for, and no other file was read
pub record IsUnasked (j : Job) (before now : View) (answer : Answer) : Type 0 where
  pub cause : IsStallRefusal before.told j.stall before.faults now.faults answer ⊎ (answer ≡ Answer.Memory)
  pub unread : (q : List ℕ) → IsNoStall j q → now.reach q ≡ before.reach q
  pub shown : ShowsFault before.faults now.faults answer

-- why there is no checkpoint: no samples were asked for, or none comes of them
abbrev pub IsUnfolded : Shape → Job → View → View → Answer → Type 0
IsUnfolded c j before now answer =
    IsUnasked j before now answer ⊎ HasRunFor (IsNoStall j) c j before now (λ r. IsUnmarked r answer)

-- the checkpoint was to be written
pub record IsMarkPut (N P : ℕ) (r : Course) (before : ℕ) (k : Call) (answer : Answer) : Type 0 where
  pub bytes : List ℕ
  pub marked : HasMarked N P r before bytes
  pub put : IsPut bytes k.old k.new k.out_before k.out_now answer

abbrev pub IsFoldOf : Loadable → ℕ → Job → Call → Answer → Type 0
IsFoldOf loaded before j k answer =
    HasRunFor (IsNoStall j) (shape_in loaded) j k.before k.now (λ r. IsMarkPut (columns_in loaded) (registers_in loaded) r before k answer)
    ⊎ (IsUnfolded (shape_in loaded) j k.before k.now answer × (k.new ≡ k.old))

-- ---- of a source
-- no samples were asked for: nothing is written, and the samples were not read
pub record HasNoFold (j : Job) (k : Call) (answer : Answer) : Type 0 where
  pub cause : IsRunRefusal j k.before k.now answer
  pub unwritten : k.new ≡ k.old
  pub unread : (q : List ℕ) → IsNeither j q → k.now.reach q ≡ k.before.reach q
  pub shown : ShowsFault k.before.faults k.now.faults answer

-- the checkpoint was to be written, or none came of the samples and nothing is written
abbrev pub IsFoldEnd : ℕ → ℕ → Course → ℕ → Call → Answer → Type 0
IsFoldEnd N P r before k answer = IsMarkPut N P r before k answer ⊎ (IsUnmarked r answer × (k.new ≡ k.old))

-- a run of the configuration of the source
pub record HasFolded (j : Job) (k : Call) (answer : Answer) : Type 0 where
  pub N : ℕ
  pub P : ℕ
  pub conf : Shape
  pub gives : Gives k.before.told j.source N P conf
  pub run : HasRunFor (IsNeither j) conf j k.before k.now (λ r. IsFoldEnd N P r (count_in j.source) k answer)

abbrev pub IsFolded : Job → Call → Answer → Type 0
IsFolded j k answer = HasNoFold j k answer ⊎ HasFolded j k answer

-- the same of a checkpoint, whatever its count
abbrev pub HasExtended : Resumption → Call → Answer → Type 0
HasExtended r k answer = (count : ℕ) × IsFolded (resumed r count) k answer

-- ---- what is written over told files
-- the samples of the file are all good, and something is put of the checkpoint after them
pub record HasWrittenMark (files : List ℕ → Option (List ℕ)) (j : Job) (put : List ℕ → Type 0) : Type 0 where
  pub N : ℕ
  pub P : ℕ
  pub conf : Shape
  pub gives : Gives (Some files) j.source N P conf
  pub file : List ℕ
  pub there : files j.second ≡ Some file
  pub ends : (fed_at_most (most_in j.source) conf.inputs file).ending ≡ End
  pub text : put (mark_after N P (count_in j.source) conf (fed_at_most (most_in j.source) conf.inputs file).samples)

-- the checkpoint is written; after a failed write first bytes of it are; and else nothing is
abbrev pub AreMarkBytes : (List ℕ → Option (List ℕ)) → Job → Call → Answer → Type 0
AreMarkBytes files j k Answer.Ok = HasWrittenMark files j (Appends k.old k.new)
AreMarkBytes files j k Answer.WriteFault = HasWrittenMark files j (AppendsFront k.old k.new)
AreMarkBytes files j k answer = k.new ≡ k.old

abbrev pub AreExtendedBytes : (List ℕ → Option (List ℕ)) → Resumption → Call → Answer → Type 0
AreExtendedBytes files r k answer = (count : ℕ) × AreMarkBytes files (resumed r count) k answer
