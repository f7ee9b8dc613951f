-- From a run over texts in memory to what is told of it.
use Rattle.std.proofs.Common.{◌≡◌, ◌⊎◌, ◌≤◌, ◌<◌, ◌∙◌, ℕ, true, false, List, [], length, map, vec_len, Option, Some, None, refl, sym, ap, subst, arith, inl, inr}
use Rattle.std.proofs.lemmas.List.{length-map}
use Rattle.pr_base.specs.Rows.{row_bytes, written}
use Rattle.pr_compile.specs.Configured.{HasUnits}
use Rattle.pr_conf.specs.declared.configurations.Configuration.{Configuration}
use Rattle.pr_conf.specs.Configuration.{shape_of, pes_of}
use Rattle.pr_conf.specs.Shape.{Shape}
use Rattle.pr_control.specs.Counts.{cycles_of}
use Rattle.pr_edge.specs.Count.{Rose}
use Rattle.pr_edge.specs.Files.{Told}
use Rattle.pr_edge.specs.Tape.{Tape, IsAppended, Appends}
use Rattle.pr_gen.specs.Texts.{program_text, samples_text}
use Rattle.pr_lang_meaning.specs.Programs.{out}
use Rattle.pr_machine.specs.Stands.{Stands, account_of}
use Rattle.pr_machine.proofs.Events.{some_stages}
use Rattle.pr_run.specs.Turns.{Going}
use Rattle.pr_run.specs.Setting.{held_of}
use Rattle.pr_run_script.specs.Script.{Held, script}
use Rattle.pr_run_script.proofs.WholeLaws.{counted}
use Rattle.pr_samples.specs.Fed.{End}
use Rattle.pr_samples.specs.Stall.{turns_of}
use Rattle.pr_tool_answers.specs.declared.answers.Answer.{Answer}
use Rattle.pr_tool_answers.specs.Owed.{IsOwed}
use Rattle.pr_tool_modes.specs.declared.benches.Bench.{Bench}
use Rattle.pr_tool_modes.specs.declared.loadables.Loadable.{Loadable}
use Rattle.pr_tool_modes.specs.Calls.{Call}
use Rattle.pr_tool_modes.specs.Executions.{IsRunOn, IsRunOf, HasCome}
use Rattle.pr_tool_modes.specs.Generations.{Generation, generated, program_file, job_for, summary, Tells, TellsOn, IsUntold, HasGenerated, IsGenVerdict}
use Rattle.pr_tool_modes.specs.Lines.{HasRunOn, OnBench, IsWholeRun, MeansLines}
use Rattle.pr_tool_modes.specs.Programs.{IsCounted}
use Rattle.pr_tool_modes.specs.Samples.{fed_in, pieces}
use Rattle.pr_tool_modes.specs.Stalls.{HasStall}
use Rattle.pr_tool_modes.specs.Unlogged.{GainsLines}
use Rattle.pr_tool_modes.specs.Sources.{Gives, columns_in, registers_in, shape_in, IsOnFabric}
use Rattle.pr_tool_modes.proofs.LinesLemmas.{program_lines}
use Rattle.pr_tool_modes.proofs.RunVerdicts.{come_of, run_owed}

-- ---- the summary
-- the stages that a machine tells are those of its configuration
pub stages_are : {N P : ℕ} (conf : Configuration N P) (k : Shape) → shape_of conf ≡ k → vec_len conf.stages ≡ length k.stages
stages_are {N = N} conf k e =
    let n = ap (λ (x : Shape). length x.stages) e in
    let m = length-map conf.stages.items (pes_of {N = N}) in
    omega (arith, n, m, conf.stages.ok.0)

-- the machine of a run without a stall text has advanced as long as its samples take
time_is : (conf : Shape) (p : ℕ) (rows : List (List ℕ)) → 0 < length conf.stages → 2 ≤ p
    → (account_of conf p (script (length conf.stages) p (pieces conf rows) [])).time ≡ cycles_of (length conf.stages) p (length rows)
time_is conf p rows some two =
    (counted (length conf.stages) p (pieces conf rows) some two).time ∙ ap (cycles_of (length conf.stages) p) (length-map rows (row_bytes conf.inputs))

-- the stall text without a file has no turns
no_turns : (files : List ℕ → Option (List ℕ)) (turns : List Held) → HasStall (Some files) None turns → turns ≡ []
unfolding turns_of
no_turns files turns has = has.are ∙ ap (λ (t : List ℕ). map held_of (turns_of t)) has.file

-- what a machine's run on the generated texts tells
told_run : {N P : ℕ} (g : Generation) (k : Call) (widths : List ℕ) (machine : Going N P) (units : ℕ) (bytes text : List ℕ) → 2 ≤ g.stripes
    → HasRunOn (generated g.turns) (job_for g) k widths (fed_in widths samples_text).samples true machine → (fed_in widths samples_text).ending ≡ End
    → MeansLines (generated g.turns) (job_for g) widths (fed_in widths samples_text).samples (λ t. bytes ≡ t) → IsCounted (Some (generated g.turns)) program_file g.target.narrowed units
    → Tells g.turns units bytes text machine → HasGenerated g (λ t. text ≡ t) machine
told_run {N} {P} g k widths machine units bytes text two on ends means counts tells =
    let rows = (fed_in widths samples_text).samples in
    let none = no_turns (generated g.turns) on.turns on.stall in
    let stands : Stands machine on.conf g.stripes (script (length on.conf.stages) g.stripes (pieces on.conf rows) []) =
    subst (λ (turns : List Held). Stands machine on.conf g.stripes (script (length on.conf.stages) g.stripes (pieces on.conf rows) turns)) none on.stands in
    let time = time_is on.conf g.stripes rows (some_stages machine.parts.conf on.conf stands.conf) two in
    let same : counts.text ≡ program_text g.turns = (let both : Some counts.text ≡ Some (program_text g.turns) = sym counts.file in cc) in
    let told : text ≡ summary g.turns units (length on.conf.stages) (cycles_of (length on.conf.stages) g.stripes (length rows)) (written (out means.program rows)) =
    tells on.conf g.stripes _ stands
    ∙ (ap (λ (t : ℕ). summary g.turns units (length on.conf.stages) t bytes) time
    ∙ ap (λ (b : List ℕ). summary g.turns units (length on.conf.stages) (cycles_of (length on.conf.stages) g.stripes (length rows)) b) means.lines) in
    record {
      program = means.program;
      widths = means.equation_widths;
      has = means.has;
      units = units;
      counts = subst (λ (t : List ℕ). HasUnits g.target.narrowed t units) same counts.has;
      conf = on.conf;
      gives = on.gives;
      ends = ap (λ (ws : List ℕ). (fed_in ws samples_text).ending) on.inputs ∙ ends;
      stands = subst (λ (ws : List ℕ). Stands machine on.conf g.stripes (script (length on.conf.stages) g.stripes (pieces on.conf (fed_in ws samples_text).samples) [])) (sym on.inputs) stands;
      text = subst (λ (ws : List ℕ). text ≡ summary g.turns units (length on.conf.stages) (cycles_of (length on.conf.stages) g.stripes (length (fed_in ws samples_text).samples)) (written (out means.program (fed_in ws samples_text).samples))) (sym on.inputs) told;
    }

-- ---- the run
-- a sink that was empty has gained what it holds
gained_is : (old new : Tape) (bytes piece : List ℕ) → old.bytes ≡ Some [] → new.bytes ≡ Some bytes → Appends old new piece → bytes ≡ piece
gained_is old new bytes piece empty now h = subst (λ (o : Option (List ℕ)). IsAppended o (Some bytes) piece) empty (subst (λ (o : Option (List ℕ)). IsAppended old.bytes o piece) now h.appended)

-- the lines of the program's meaning are those that the sink holds
gained_means : (g : Generation) (k : Call) (widths : List ℕ) (rows : List (List ℕ)) (bytes : List ℕ) → k.old.bytes ≡ Some [] → k.new.bytes ≡ Some bytes
    → MeansLines (generated g.turns) (job_for g) widths rows (GainsLines false k.old k.new) → MeansLines (generated g.turns) (job_for g) widths rows (λ t. bytes ≡ t)
gained_means g k widths rows bytes empty now means = record {
  program = means.program;
  equation_widths = means.equation_widths;
  has = means.has;
  inputs = means.inputs;
  lines = gained_is k.old k.new bytes means.lines.text empty now means.lines.gained ∙ means.lines.are;
}

-- what came of the run, as a run of the files of a shelf
come : (g : Generation) (k : Call) (loaded : Loadable) (bench : Bench) (a : Answer) → k.before.told ≡ Some (generated g.turns)
    → IsOnFabric (Some (generated g.turns)) program_file g.target (columns_in loaded) (registers_in loaded) (shape_in loaded)
    → IsRunOf loaded (job_for g) k Bench.Nothing bench a → HasCome (job_for g) k Bench.Nothing bench a
come g k loaded bench a told gives ran =
    come_of (job_for g) k k.before loaded Bench.Nothing bench a (subst (λ (t : Told). Gives t (job_for g).source (columns_in loaded) (registers_in loaded) (shape_in loaded)) (sym told) gives) refl refl (λ q other. refl) ran

told_ran : (g : Generation) (k : Call) (bench : Bench) (units : ℕ) (bytes text : List ℕ) → 2 ≤ g.stripes → k.old.bytes ≡ Some [] → k.new.bytes ≡ Some bytes
    → IsWholeRun (MeansLines (generated g.turns) (job_for g)) (generated g.turns) (job_for g) samples_text k bench End → IsCounted (Some (generated g.turns)) program_file g.target.narrowed units
    → TellsOn g.turns units bytes text bench → OnBench (λ N P machine. HasGenerated g (λ t. text ≡ t) machine) bench
told_ran g k Bench.Nothing units bytes text two empty now whole counts tells = absurd tells
told_ran g k (Bench.Base machine) units bytes text two empty now whole counts tells =
    told_run g k whole.widths machine units bytes text two whole.ran whole.ends (gained_means g k whole.widths _ bytes empty now whole.means) counts tells
told_ran g k (Bench.Wide machine) units bytes text two empty now whole counts tells =
    told_run g k whole.widths machine units bytes text two whole.ran whole.ends (gained_means g k whole.widths _ bytes empty now whole.means) counts tells

-- a good run of the compiled program, and what is told of it
pub told_good : (g : Generation) (k : Call) (loaded : Loadable) (bench : Bench) (units : ℕ) (bytes text : List ℕ) → 2 ≤ g.stripes → k.before.told ≡ Some (generated g.turns) → k.old.bytes ≡ Some [] → k.new.bytes ≡ Some bytes
    → IsOnFabric (Some (generated g.turns)) program_file g.target (columns_in loaded) (registers_in loaded) (shape_in loaded) → IsCounted (Some (generated g.turns)) program_file g.target.narrowed units
    → IsRunOn loaded (job_for g) k bench Answer.Ok
    → TellsOn g.turns units bytes text bench → OnBench (λ N P machine. HasGenerated g (λ t. text ≡ t) machine) bench
told_good g k loaded bench units bytes text two told empty now gives counts on tells =
    told_ran g k bench units bytes text two empty now (program_lines (generated g.turns) (job_for g) program_file g.target k Bench.Nothing bench Answer.Ok refl told (come g k loaded bench Answer.Ok told gives (inr on))) counts tells

-- ---- refusals
-- no read of such a shelf fails
steady : (IsVerdict : Answer → Type 0) (ob on : ℕ) (a : Answer) → IsOwed IsVerdict 0 0 ob on a → (a ≡ Answer.WriteFault → ⊥) → IsVerdict a ⊎ (a ≡ Answer.Memory)
steady IsVerdict ob on a (inl is) no_write = inl is
steady IsVerdict ob on a (inr (inl read)) no_write = absurd (let rose : Rose 0 0 = read.1 in omega (arith, rose))
steady IsVerdict ob on a (inr (inr (inl write))) no_write = absurd (no_write write.0)
steady IsVerdict ob on a (inr (inr (inr memory))) no_write = inr memory

-- the run came to another answer
pub gen_ran : (g : Generation) (k : Call) (loaded : Loadable) (bench : Bench) (a : Answer) → k.before.told ≡ Some (generated g.turns) → k.before.faults ≡ 0 → k.now.faults ≡ 0
    → IsOnFabric (Some (generated g.turns)) program_file g.target (columns_in loaded) (registers_in loaded) (shape_in loaded)
    → IsRunOf loaded (job_for g) k Bench.Nothing bench a → (a ≡ Answer.WriteFault → ⊥) → IsGenVerdict g a ⊎ (a ≡ Answer.Memory)
gen_ran g k loaded bench a told before now gives ran no_write =
    let owed = run_owed (generated g.turns) (job_for g) k Bench.Nothing bench a told (come g k loaded bench a told gives ran) in
    steady (IsGenVerdict g) k.out_before k.out_now a
    (subst (λ (n : ℕ). IsOwed (IsGenVerdict g) 0 n k.out_before k.out_now a) now (subst (λ (n : ℕ). IsOwed (IsGenVerdict g) n k.now.faults k.out_before k.out_now a) before owed)) no_write

-- nothing is told of the run
pub gen_untold : (g : Generation) (k : Call) (loaded : Loadable) (bench : Bench) (came a : Answer) → k.before.told ≡ Some (generated g.turns) → k.before.faults ≡ 0 → k.now.faults ≡ 0
    → IsOnFabric (Some (generated g.turns)) program_file g.target (columns_in loaded) (registers_in loaded) (shape_in loaded)
    → IsRunOn loaded (job_for g) k bench came → IsUntold came a → IsGenVerdict g a ⊎ (a ≡ Answer.Memory)
gen_untold g k loaded bench came a told before now gives on (inl is) =
    subst (λ (x : Answer). IsGenVerdict g x ⊎ (x ≡ Answer.Memory)) (sym is.0) (gen_ran g k loaded bench came told before now gives (inr on) is.1)
gen_untold g k loaded bench came a told before now gives on (inr memory) = inr memory

-- ---- what is put
put_more : {N P : ℕ} (g : Generation) (put other : List ℕ → Type 0) (machine : Going N P) → ((t : List ℕ) → put t → other t) → HasGenerated g put machine → HasGenerated g other machine
put_more g put other machine more has = record {
  program = has.program;
  widths = has.widths;
  has = has.has;
  units = has.units;
  counts = has.counts;
  conf = has.conf;
  gives = has.gives;
  ends = has.ends;
  stands = has.stands;
  text = more _ has.text;
}

pub bench_more : (g : Generation) (put other : List ℕ → Type 0) (bench : Bench) → ((t : List ℕ) → put t → other t)
    → OnBench (λ N P machine. HasGenerated g put machine) bench → OnBench (λ N P machine. HasGenerated g other machine) bench
bench_more g put other Bench.Nothing more has = absurd has
bench_more g put other (Bench.Base machine) more has = put_more g put other machine more has
bench_more g put other (Bench.Wide machine) more has = put_more g put other machine more has
