-- What a run is asked to do.
use Rattle.std.specs.Prelude.{◌≡◌, ◌≢◌, ℕ, Bool, List, Option, Some, option_map}
use Rattle.pr_tool_modes.specs.declared.jobs.ConfSource.{ConfSource as NamedSource}
use Rattle.pr_tool_modes.specs.declared.jobs.ConfSource.TheVariants as named
use Rattle.pr_tool_modes.specs.declared.jobs.Run.{Run}
use Rattle.pr_tool_modes.specs.declared.jobs.Job.{Job as NamedJob}
use Rattle.pr_tool_modes.specs.declared.jobs.Resumption.{Resumption as NamedResumption}
use Rattle.pr_tool_modes.specs.Sources.{ConfSource, File, Text, Mark, name_in}

-- where the configuration comes from, the names of a file of samples and of a stall file, if there is one, a number of
-- stripes, and whether the log is asked for
pub record Job : Type 0 where
  pub source : ConfSource
  pub second : List ℕ
  pub stall : Option (List ℕ)
  pub stripes : ℕ
  pub log : Bool

abbrev pub job : ConfSource → List ℕ → Option (List ℕ) → ℕ → Bool → Job
job source second stall stripes log = record { source = source; second = second; stall = stall; stripes = stripes; log = log }

-- the name of a checkpoint, and what is done of a job when a run goes on from it
pub record Resumption : Type 0 where
  pub name : List ℕ
  pub second : List ℕ
  pub stall : Option (List ℕ)
  pub stripes : ℕ
  pub log : Bool

-- the job, where the checkpoint is one after so many samples
abbrev pub resumed : Resumption → ℕ → Job
resumed r count = job (Mark r.name count) r.second r.stall r.stripes r.log

-- the name of the file from which the configuration comes
abbrev pub first_of : Job → List ℕ
first_of j = name_in j.source

-- the name is not that of the stall file
abbrev pub IsNoStall : Job → List ℕ → Type 0
IsNoStall j q = j.stall ≢ Some q

-- nor that of the first file
abbrev pub IsNeither : Job → List ℕ → Type 0
IsNeither j q = (q ≢ first_of j) × IsNoStall j q

-- the samples and the stall file are not both of this name
abbrev pub IsNotBoth : List ℕ → Option (List ℕ) → List ℕ → Type 0
IsNotBoth second stall q = q ≡ second → stall ≢ Some q

-- neither of them is
abbrev pub IsApart : List ℕ → Option (List ℕ) → List ℕ → Type 0
IsApart second stall q = (q ≢ second) × (stall ≢ Some q)

-- none of the job's files is of this name
abbrev pub IsNotNamed : Job → List ℕ → Type 0
IsNotNamed j q = (q ≢ j.second) × IsNeither j q

-- at most one of the job's files is of this name
abbrev pub IsNamedOnce : Job → List ℕ → Type 0
IsNamedOnce j q = (q ≡ first_of j → (q ≢ j.second) × IsNoStall j q) × IsNotBoth j.second j.stall q

-- the same of a run that goes on, whatever the count of its checkpoint
abbrev pub IsResumedOnce : Resumption → List ℕ → Type 0
IsResumedOnce r q = IsNamedOnce (resumed r 0) q

-- ---- as the code has them
abbrev pub source_of : NamedSource → ConfSource
source_of (named.File name) = File name.now
source_of (named.Program name target) = Text name.now target

abbrev pub stall_in : Run → Option (List ℕ)
stall_in r = option_map (λ s. s.now) r.stall

abbrev pub job_on : ConfSource → Run → Job
job_on source r = job source r.samples.now (stall_in r) r.stripes r.log

abbrev pub job_of : NamedJob → Job
job_of j = job_on (source_of j.source) j.run

abbrev pub resumption_of : NamedResumption → Resumption
resumption_of r = record {
  name = r.checkpoint.now;
  second = r.run.samples.now;
  stall = stall_in r.run;
  stripes = r.run.stripes;
  log = r.run.log;
}
