-- Runs of generated programs on generated samples, and what is told of them.
use Rattle.std.specs.Prelude.{◌≡◌, ◌==◌, ◌⊎◌, ℕ, Bool, false, nat_eq, List, [], ◌∷◌, ◌++◌, length, drop, reverse, Option, Some, None, unwrap_or, codes, decimal, if◌then◌else◌}
use Rattle.std.specs.List.{before_first}
use Rattle.std.specs.Cmp.Lexicographic.{pointwise}
use Rattle.pr_base.specs.Rows.{written}
use Rattle.pr_compile.specs.Configured.{HasUnits}
use Rattle.pr_conf.specs.Shape.{Shape}
use Rattle.pr_control.specs.Counts.{cycles_of}
use Rattle.pr_edge.specs.Count.{Rose}
use Rattle.pr_edge.specs.Tape.{Tape, Appends, AppendsFront}
use Rattle.pr_gen.specs.Texts.{program_text, samples_text}
use Rattle.pr_lang.specs.declared.trees.Program.{Program}
use Rattle.pr_lang_meaning.specs.Programs.{out}
use Rattle.pr_machine.specs.Stands.{Stands, History, account_of}
use Rattle.pr_run.specs.Turns.{Going}
use Rattle.pr_run_script.specs.Script.{script}
use Rattle.pr_samples.specs.Fed.{End}
use Rattle.pr_tool_answers.specs.declared.answers.Answer.{Answer}
use Rattle.pr_tool_modes.specs.declared.benches.Bench.{Bench}
use Rattle.pr_tool_modes.specs.declared.jobs.Generation.{Generation as NamedGeneration}
use Rattle.pr_tool_modes.specs.declared.targets.Target.{Target}
use Rattle.pr_tool_modes.specs.Executions.{IsRunVerdict}
use Rattle.pr_tool_modes.specs.Jobs.{Job, job}
use Rattle.pr_tool_modes.specs.Lines.{OnBench}
use Rattle.pr_tool_modes.specs.Programs.{HasProgram}
use Rattle.pr_tool_modes.specs.Samples.{fed_in, pieces}
use Rattle.pr_tool_modes.specs.Sources.{Text, IsOnFabric}

-- the turns of the program's loop, what it is compiled for, and the stripes
pub record Generation : Type 0 where
  pub turns : ℕ
  pub target : Target
  pub stripes : ℕ

abbrev pub generation_of : NamedGeneration → Generation
generation_of g = record { turns = g.turns; target = g.target; stripes = g.stripes }

-- ---- the files
abbrev pub program_file : List ℕ
program_file = codes "program"

abbrev pub samples_file : List ℕ
samples_file = codes "samples"

-- the program of so many turns, the samples, and nothing of any other name
abbrev pub generated : ℕ → List ℕ → Option (List ℕ)
generated turns name =
    Some (unwrap_or (if pointwise nat_eq program_file name then Some (program_text turns) else if pointwise nat_eq samples_file name then Some samples_text else None) [])

-- the run of the program on the samples
abbrev pub job_for : Generation → Job
job_for g = job (Text program_file g.target) samples_file None g.stripes false

abbrev pub rows_for : Shape → List (List ℕ)
rows_for conf = (fed_in conf.inputs samples_text).samples

-- ---- what is told
abbrev pub is_end : ℕ → Bool
is_end b = b == 10

-- the first line of a text, and the last, each without its end
abbrev pub first_line : List ℕ → List ℕ
first_line text = before_first is_end text

abbrev pub last_line : List ℕ → List ℕ
last_line text = reverse (first_line (drop 1 (reverse text)))

-- a program of so many turns, units and stages ran for so many cycles, and these are its lines
unfoldable pub summary : ℕ → ℕ → ℕ → ℕ → List ℕ → List ℕ
summary turns units stages cycles lines =
    codes "k " ++ decimal turns
    ++ (codes " units " ++ decimal units)
    ++ (codes " stages " ++ decimal stages)
    ++ (codes " samples 1000 cycles " ++ decimal cycles)
    ++ codes " first " ++ first_line lines
    ++ codes " last " ++ last_line lines
    ++ 10 ∷ []

-- the text tells this of a machine, whatever history it stands for
abbrev pub Tells : {N P : ℕ} → ℕ → ℕ → List ℕ → List ℕ → Going N P → Type 0
Tells turns units lines text machine =
    (conf : Shape) (stripes : ℕ) (history : History) → Stands machine conf stripes history
    → text ≡ summary turns units (length conf.stages) (account_of conf stripes history).time lines

-- it tells this of the machine on a bench
abbrev pub TellsOn : ℕ → ℕ → List ℕ → List ℕ → Bench → Type 0
TellsOn turns units lines text bench = OnBench (λ N P machine. Tells turns units lines text machine) bench

-- why nothing is told of a run that came to this: that it did so, but for a write that failed; or memory is wanting
abbrev pub IsUntold : Answer → Answer → Type 0
IsUntold came answer = ((answer ≡ came) × (came ≡ Answer.WriteFault → ⊥) × (came ≡ Answer.Ok → ⊥)) ⊎ (answer ≡ Answer.Memory)

-- no point refuses the program, its samples are all good, the machine was asked all events of the run on them, and the summary
-- of the run is put: its units are those of the program's net, its cycles those that drain the samples, and its lines those of what
-- the program means
pub record HasGenerated {N P : ℕ} (g : Generation) (put : List ℕ → Type 0) (machine : Going N P) : Type 0 where
  pub program : Program
  pub widths : List ℕ
  pub has : HasProgram (Some (generated g.turns)) program_file program widths
  pub units : ℕ
  pub counts : HasUnits g.target.narrowed (program_text g.turns) units
  pub conf : Shape
  pub gives : IsOnFabric (Some (generated g.turns)) program_file g.target N P conf
  pub ends : (fed_in conf.inputs samples_text).ending ≡ End
  pub stands : Stands machine conf g.stripes (script (length conf.stages) g.stripes (pieces conf (rows_for conf)) [])
  pub text : put (summary g.turns units (length conf.stages)
      (cycles_of (length conf.stages) g.stripes (length (rows_for conf))) (written (out program (rows_for conf))))

-- ---- what it comes to
-- that of the run on the two texts
abbrev pub IsGenVerdict : Generation → Answer → Type 0
IsGenVerdict g answer = IsRunVerdict (generated g.turns) (job_for g) answer

-- by the answer: the summary is written, and the machine is on the bench; or nothing is, and the bench is as it was
pub record IsUngenerated (old new : Tape) (was bench : Bench) : Type 0 where
  pub unwritten : new ≡ old
  pub kept : bench ≡ was

abbrev pub IsGenerated : Generation → Tape → Tape → ℕ → ℕ → Bench → Bench → Answer → Type 0
IsGenerated g old new before now was bench Answer.Ok = OnBench (λ N P machine. HasGenerated g (Appends old new) machine) bench
IsGenerated g old new before now was bench Answer.WriteFault = OnBench (λ N P machine. HasGenerated g (AppendsFront old new) machine) bench × Rose before now
IsGenerated g old new before now was bench Answer.Memory = IsUngenerated old new was bench
IsGenerated g old new before now was bench answer = IsGenVerdict g answer × IsUngenerated old new was bench
