-- How much of the lines is written, by the answer, and what the machine was asked.
use Rattle.std.specs.Prelude.{◌≡◌, ◌⊎◌, ◌≤◌, ℕ, Bool, true, false, List, [], length, take, Option, Some, None, unwrap_or, ⊤}
use Rattle.pr_base.specs.declared.caps.Cap.{Cap}
use Rattle.pr_base.specs.Rows.{written}
use Rattle.pr_edge.specs.Tape.{Tape, Appends, AppendsFront}
use Rattle.pr_conf.specs.Shape.{Shape}
use Rattle.pr_conf.specs.Through.{result_numbers}
use Rattle.pr_lang.specs.declared.trees.Program.{Program}
use Rattle.pr_lang_meaning.specs.Programs.{out}
use Rattle.pr_samples.specs.Fed.{Ending, End, BadSample, Limit}
use Rattle.pr_machine.specs.Stands.{Stands, History}
use Rattle.pr_run_script.specs.Script.{Held, most_cycles, script}
use Rattle.pr_run_script.specs.Counts.{cycles_in, IsPrefix}
use Rattle.pr_run_script.specs.Text.{run_text}
use Rattle.pr_run.specs.Turns.{Going}
use Rattle.pr_tool_answers.specs.declared.answers.Answer.{Answer}
use Rattle.pr_tool_modes.specs.declared.benches.Bench.{Bench}
use Rattle.pr_tool_modes.specs.Calls.{Call}
use Rattle.pr_tool_modes.specs.Jobs.{Job, first_of, IsNeither}
use Rattle.pr_tool_modes.specs.Programs.{inputs_of, HasProgram}
use Rattle.pr_tool_modes.specs.Runs.{ends_well}
use Rattle.pr_tool_modes.specs.Samples.{fed_at_most, fed_to, fed_whole, pieces}
use Rattle.pr_tool_modes.specs.Sources.{most_in, Gives}
use Rattle.pr_tool_modes.specs.Stalls.{HasStall}
use Rattle.pr_tool_modes.specs.Unlogged.{GainsLines, GainsFirst}

-- by the answer: all lines are written, and the samples end so; a read failed; a write failed; or nothing was to be written
abbrev pub ByAnswer : (Ending → Type 0) → Type 0 → Type 0 → Type 0 → Answer → Type 0
ByAnswer all read cut none Answer.Ok = all End
ByAnswer all read cut none (Answer.BadSample line) = all (BadSample line)
ByAnswer all read cut none (Answer.Limit Cap.SampleBytes) = all (Limit Cap.SampleBytes)
ByAnswer all read cut none (Answer.Limit Cap.Samples) = all (Limit Cap.Samples)
ByAnswer all read cut none Answer.ReadFault = read
ByAnswer all read cut none Answer.WriteFault = cut
ByAnswer all read cut none answer = none

-- ---- an evaluation
-- a program that no point refuses is in the file of this name, its samples end so, and all its lines are written
pub record HasAllLines (files : List ℕ → Option (List ℕ)) (name file : List ℕ) (old new : Tape) (ending : Ending) : Type 0 where
  pub program : Program
  pub widths : List ℕ
  pub has : HasProgram (Some files) name program widths
  pub ends : (fed_whole (inputs_of program) file).ending ≡ ending
  pub text : Appends old new (written (out program (fed_whole (inputs_of program) file).samples))

-- some first bytes of its lines are written
pub record HasFirstLines (files : List ℕ → Option (List ℕ)) (name file : List ℕ) (old new : Tape) : Type 0 where
  pub program : Program
  pub widths : List ℕ
  pub has : HasProgram (Some files) name program widths
  pub text : AppendsFront old new (written (out program (fed_whole (inputs_of program) file).samples))

-- what an evaluation has written, of the program in the file of this name and a file of samples
abbrev pub AreEvalLines : (List ℕ → Option (List ℕ)) → List ℕ → List ℕ → Tape → Tape → Answer → Type 0
AreEvalLines files name file old new answer =
    ByAnswer (HasAllLines files name file old new) (new ≡ old) (HasFirstLines files name file old new) (new ≡ old) answer

-- ---- a run
-- a machine with the configuration of the source, whose inputs have these widths, was asked all events of a run on these
-- samples, under the turns of the stall text: they have no more cycles than one for each turn and those that drain the samples.
-- All their lines are written; without those of the log they are the lines of the results
pub record HasRunOn {N P : ℕ} (files : List ℕ → Option (List ℕ)) (j : Job) (k : Call) (widths : List ℕ) (rows : List (List ℕ)) (good : Bool) (machine : Going N P) : Type 0 where
  pub conf : Shape
  pub gives : Gives (Some files) j.source N P conf
  pub inputs : conf.inputs ≡ widths
  pub turns : List Held
  pub stall : HasStall (Some files) j.stall turns
  pub stands : Stands machine conf j.stripes (script (length conf.stages) j.stripes (pieces conf rows) turns)
  pub cycles : cycles_in (script (length conf.stages) j.stripes (pieces conf rows) turns) ≤ most_cycles (length conf.stages) j.stripes turns (length rows)
  pub text : Appends k.old k.new (run_text N P j.log conf j.stripes (pieces conf rows) turns good)
  pub results : GainsLines j.log k.old k.new (written (result_numbers N P conf (pieces conf rows)))

-- it was asked the first of these events, and some first bytes of their lines are written
pub record HasBegunOn {N P : ℕ} (files : List ℕ → Option (List ℕ)) (j : Job) (k : Call) (widths : List ℕ) (rows : List (List ℕ)) (good : Bool) (machine : Going N P) : Type 0 where
  pub conf : Shape
  pub gives : Gives (Some files) j.source N P conf
  pub inputs : conf.inputs ≡ widths
  pub turns : List Held
  pub stall : HasStall (Some files) j.stall turns
  pub history : History
  pub stands : Stands machine conf j.stripes history
  pub events : IsPrefix history (script (length conf.stages) j.stripes (pieces conf rows) turns)
  pub cycles : cycles_in history ≤ most_cycles (length conf.stages) j.stripes turns (length rows)
  pub text : AppendsFront k.old k.new (run_text N P j.log conf j.stripes (pieces conf rows) turns good)
  pub results : GainsFirst j.log k.old k.new (written (result_numbers N P conf (pieces conf rows)))

-- the machine is on the bench
abbrev pub OnBench : ((N P : ℕ) → Going N P → Type 0) → Bench → Type 0
OnBench Is Bench.Nothing = ⊥
OnBench Is (Bench.Base machine) = Is 16 8 machine
OnBench Is (Bench.Wide machine) = Is 32 16 machine

-- all samples of the file were fed, and they end so; `further` says more of the widths, the samples and what is put of them
pub record IsWholeRun (further : List ℕ → List (List ℕ) → (List ℕ → Type 0) → Type 0) (files : List ℕ → Option (List ℕ)) (j : Job) (file : List ℕ) (k : Call) (bench : Bench) (ending : Ending) : Type 0 where
  pub widths : List ℕ
  pub ends : (fed_at_most (most_in j.source) widths file).ending ≡ ending
  pub ran : OnBench (λ N P machine. HasRunOn files j k widths (fed_at_most (most_in j.source) widths file).samples (ends_well ending) machine) bench
  pub means : further widths (fed_at_most (most_in j.source) widths file).samples (GainsLines j.log k.old k.new)

-- a read failed after these samples, the first of the file. Where the file was read from its beginning and in the run alone,
-- they are those of the lines that stand with their LF in the bytes that were reached
pub record IsReadRun (further : List ℕ → List (List ℕ) → (List ℕ → Type 0) → Type 0) (files : List ℕ → Option (List ℕ)) (j : Job) (file : List ℕ) (k : Call) (bench : Bench) : Type 0 where
  pub widths : List ℕ
  pub rows : List (List ℕ)
  pub first : rows ≡ take (length rows) (fed_at_most (most_in j.source) widths file).samples
  pub ran : OnBench (λ N P machine. HasRunOn files j k widths rows false machine) bench
  pub means : further widths rows (GainsLines j.log k.old k.new)
  pub reached : (reach : ℕ) → files j.second ≡ Some file → IsNeither j j.second → k.before.reach j.second ≡ Some 0 → k.now.reach j.second ≡ Some reach
      → length rows ≡ length (fed_to (most_in j.source) widths file reach).samples

-- the file of samples is there, these are all its samples, and they are good
pub record AreAllGood (files : List ℕ → Option (List ℕ)) (j : Job) (file widths : List ℕ) (rows : List (List ℕ)) : Type 0 where
  pub there : files j.second ≡ None → ⊥
  pub all : rows ≡ (fed_at_most (most_in j.source) widths file).samples
  pub ends : (fed_at_most (most_in j.source) widths file).ending ≡ End

-- a write failed after these samples, the first of the file; the log's last line was begun only where they are all and good
pub record IsCutRun (further : List ℕ → List (List ℕ) → (List ℕ → Type 0) → Type 0) (files : List ℕ → Option (List ℕ)) (j : Job) (file : List ℕ) (k : Call) (bench : Bench) : Type 0 where
  pub widths : List ℕ
  pub rows : List (List ℕ)
  pub first : rows ≡ take (length rows) (fed_at_most (most_in j.source) widths file).samples
  pub closing : Bool
  pub over : closing ≡ true → AreAllGood files j file widths rows
  pub ran : OnBench (λ N P machine. HasBegunOn files j k widths rows closing machine) bench
  pub means : further widths rows (GainsFirst j.log k.old k.new)
  pub all : further widths (fed_at_most (most_in j.source) widths file).samples (GainsFirst j.log k.old k.new)

-- no run was begun: nothing is written, and the bench is as it was
pub record IsNoRun (k : Call) (was bench : Bench) : Type 0 where
  pub unwritten : k.new ≡ k.old
  pub kept : bench ≡ was

-- a read failed before the run: the file of samples was not read, if it is none of those that were
pub record IsUnreadRun (j : Job) (k : Call) (was bench : Bench) : Type 0 where
  pub none : IsNoRun k was bench
  pub unread : IsNeither j j.second → k.now.reach j.second ≡ k.before.reach j.second

-- the samples of a job; those of a file that is not there are none
abbrev pub samples_file : (List ℕ → Option (List ℕ)) → Job → List ℕ
samples_file files j = unwrap_or (files j.second) []

-- what a run has written, and what its machine was asked
abbrev pub AreRunLines : (List ℕ → List (List ℕ) → (List ℕ → Type 0) → Type 0) → (List ℕ → Option (List ℕ)) → Job → Call → Bench → Bench → Answer → Type 0
AreRunLines further files j k was bench answer =
    ByAnswer (IsWholeRun further files j (samples_file files j) k bench)
    (IsUnreadRun j k was bench ⊎ IsReadRun further files j (samples_file files j) k bench)
    (IsCutRun further files j (samples_file files j) k bench)
    (IsNoRun k was bench) answer

-- ---- a run of a program
-- a program that no point refuses is in the first file, its inputs have these widths, and the lines of what it means on these
-- samples are put
pub record MeansLines (files : List ℕ → Option (List ℕ)) (j : Job) (widths : List ℕ) (rows : List (List ℕ)) (put : List ℕ → Type 0) : Type 0 where
  pub program : Program
  pub equation_widths : List ℕ
  pub has : HasProgram (Some files) (first_of j) program equation_widths
  pub inputs : inputs_of program ≡ widths
  pub lines : put (written (out program rows))

abbrev pub AreProgramLines : (List ℕ → Option (List ℕ)) → Job → Call → Bench → Bench → Answer → Type 0
AreProgramLines files j k was bench answer = AreRunLines (MeansLines files j) files j k was bench answer

-- ---- a run of a configuration
-- nothing more is to be said
abbrev pub NoMore : List ℕ → List (List ℕ) → (List ℕ → Type 0) → Type 0
NoMore widths rows put = ⊤

abbrev pub AreConfigurationLines : (List ℕ → Option (List ℕ)) → Job → Call → Bench → Bench → Answer → Type 0
AreConfigurationLines files j k was bench answer = AreRunLines NoMore files j k was bench answer
