-- What a mode comes to that runs a configuration on samples.
use Rattle.std.specs.Prelude.{◌≡◌, ◌⊎◌, ℕ, List, Option, Some}
use Rattle.pr_edge.specs.Count.{Rose}
use Rattle.pr_edge.specs.Tape.{Tape}
use Rattle.pr_conf.specs.Shape.{Shape}
use Rattle.pr_conf.specs.Configuration.{shape_of}
use Rattle.pr_run_script.specs.Script.{Held}
use Rattle.pr_edge.specs.Files.{View}
use Rattle.pr_run.specs.Turns.{Going}
use Rattle.pr_tool_answers.specs.declared.answers.Answer.{Answer}
use Rattle.pr_tool_modes.specs.declared.benches.Bench.{Bench}
use Rattle.pr_tool_modes.specs.Calls.{Call}
use Rattle.pr_tool_modes.specs.Files.{ShowsFault}
use Rattle.pr_tool_modes.specs.declared.loadables.Loadable.{Loadable}
use Rattle.pr_tool_modes.specs.Jobs.{Job, IsNoStall, IsNeither}
use Rattle.pr_tool_modes.specs.Runs.{course, IsRun}
use Rattle.pr_tool_modes.specs.Samples.{samples_verdict}
use Rattle.pr_tool_modes.specs.Sources.{most_in, Gives, IsGood, IsSourceRefusal, IsRefusedSource}
use Rattle.pr_tool_modes.specs.Stalls.{HasStall, IsStallRefusal, after_stall}

-- between the two only files of other names than these were read, and no read failed
pub record IsLater (kept : List ℕ → Type 0) (before start : View) : Type 0 where
  pub told : start.told ≡ before.told
  pub faults : start.faults ≡ before.faults
  pub reach : (q : List ℕ) → kept q → start.reach q ≡ before.reach q

-- a run of this configuration, before which files of other names than these were read
pub record HasRun {N P : ℕ} (kept : List ℕ → Type 0) (c : Shape) (j : Job) (before now : View) (old new : Tape) (machine : Going N P) (answer : Answer) : Type 0 where
  pub turns : List Held
  pub stall : HasStall before.told j.stall turns
  pub start : View
  pub later : IsLater kept before start
  pub run : IsRun (course c j.stripes turns j.log (most_in j.source) j.second start now old new) machine answer

-- the stall text is refused, or memory was wanting: nothing is written, the bench is as it was, and no other file was read
pub record IsHeldBack (j : Job) (k : Call) (was bench : Bench) (answer : Answer) : Type 0 where
  pub cause : IsStallRefusal k.before.told j.stall k.before.faults k.now.faults answer ⊎ (answer ≡ Answer.Memory)
  pub unwritten : k.new ≡ k.old
  pub kept : bench ≡ was
  pub unread : (q : List ℕ) → IsNoStall j q → k.now.reach q ≡ k.before.reach q
  pub shown : ShowsFault k.before.faults k.now.faults answer

-- a run of this configuration, of which a write fails only by a count
pub record HasBeenRun {N P : ℕ} (c : Shape) (j : Job) (k : Call) (machine : Going N P) (answer : Answer) : Type 0 where
  pub run : HasRun (IsNoStall j) c j k.before k.now k.old k.new machine answer
  pub write_fault : answer ≡ Answer.WriteFault → Rose k.out_before k.out_now

-- its machine is on the bench, in the variant of the configuration's fabric
abbrev pub IsRunOn : Loadable → Job → Call → Bench → Answer → Type 0
IsRunOn (Loadable.Base conf) j k (Bench.Base machine) answer = HasBeenRun (shape_of conf) j k machine answer
IsRunOn (Loadable.Wide conf) j k (Bench.Wide machine) answer = HasBeenRun (shape_of conf) j k machine answer
IsRunOn loaded j k bench answer = ⊥

-- what a configuration came to that was to be run
abbrev pub IsRunOf : Loadable → Job → Call → Bench → Bench → Answer → Type 0
IsRunOf loaded j k was bench answer = IsHeldBack j k was bench answer ⊎ IsRunOn loaded j k bench answer

-- a run of the configuration of the source
pub record HasRan {N P : ℕ} (j : Job) (k : Call) (machine : Going N P) (answer : Answer) : Type 0 where
  pub conf : Shape
  pub gives : Gives k.before.told j.source N P conf
  pub run : HasRun (IsNeither j) conf j k.before k.now k.old k.new machine answer
  pub write_fault : answer ≡ Answer.WriteFault → Rose k.out_before k.out_now

-- its machine is on the bench, in the variant of its fabric
abbrev pub IsExecuted : Job → Call → Bench → Answer → Type 0
IsExecuted j k Bench.Nothing answer = ⊥
IsExecuted j k (Bench.Base machine) answer = HasRan j k machine answer
IsExecuted j k (Bench.Wide machine) answer = HasRan j k machine answer

-- why no run was begun: the source gives no configuration, there is no stall text, or memory was wanting
abbrev pub IsRunRefusal : Job → View → View → Answer → Type 0
IsRunRefusal j before now answer =
    IsSourceRefusal before.told j.source before.faults now.faults answer
    ⊎ ((IsGood before.told j.source × IsStallRefusal before.told j.stall before.faults now.faults answer)
    ⊎ (answer ≡ Answer.Memory))

-- no run was begun: nothing is written, the bench is as it was, and the samples were not read
pub record HasNoRun (j : Job) (k : Call) (was bench : Bench) (answer : Answer) : Type 0 where
  pub cause : IsRunRefusal j k.before k.now answer
  pub unwritten : k.new ≡ k.old
  pub kept : bench ≡ was
  pub unread : (q : List ℕ) → IsNeither j q → k.now.reach q ≡ k.before.reach q
  pub shown : ShowsFault k.before.faults k.now.faults answer

abbrev pub HasCome : Job → Call → Bench → Bench → Answer → Type 0
HasCome j k was bench answer = HasNoRun j k was bench answer ⊎ IsExecuted j k bench answer

-- ---- the verdict
-- the source gives a configuration, and then the stall text and the samples decide
pub record IsLastVerdict (files : List ℕ → Option (List ℕ)) (j : Job) (answer : Answer) : Type 0 where
  pub N : ℕ
  pub P : ℕ
  pub conf : Shape
  pub gives : Gives (Some files) j.source N P conf
  pub last : answer ≡ after_stall files j.stall (samples_verdict (most_in j.source) conf.inputs (files j.second))

abbrev pub IsRunVerdict : (List ℕ → Option (List ℕ)) → Job → Answer → Type 0
IsRunVerdict files j answer = IsRefusedSource files j.source answer ⊎ IsLastVerdict files j answer
