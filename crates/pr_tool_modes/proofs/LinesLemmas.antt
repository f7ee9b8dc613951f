-- From what a call came to, to the lines that it has written.
use Rattle.std.proofs.Common.{◌≡◌, ◌⊎◌, ◌≤◌, ◌<◌, ◌^◌, ℕ, Bool, true, false, not, List, All, [], ◌++◌, length, take, drop, Option, Some, None, unwrap_or, refl, sym, ap, subst, ◌∙◌, arith, inl, inr, true≢false}
use Rattle.std.specs.Bool.{MatchBool}
use Rattle.std.proofs.lemmas.List.{take-append-drop}
use Rattle.std.proofs.lemmas.List.Elements.{All-take}
use Rattle.std.proofs.lemmas.Grind.{flat_map-append}
use Rattle.pr_base.specs.Fabrics.{columns, registers}
use Rattle.pr_base.specs.declared.caps.Cap.{Cap}
use Rattle.pr_base.specs.Rows.{IsRow, row_line, written}
use Rattle.pr_edge.specs.Files.{Told, IsMissing}
use Rattle.pr_edge.specs.Tape.{Tape, Appends, AppendsFront}
use Rattle.pr_conf.specs.Shape.{Shape}
use Rattle.pr_conf.specs.Through.{result_numbers}
use Rattle.pr_compile.specs.Meant.{IsMeant}
use Rattle.pr_lang.specs.declared.trees.Program.{Program}
use Rattle.pr_samples.specs.Fed.{Fed, Ending, End, BadSample, Limit}
use Rattle.pr_samples.specs.Feed.{Tells}
use Rattle.pr_lang_meaning.specs.Programs.{out}
use Rattle.pr_lang_meaning.proofs.EvenPrograms.{take-out}
use Rattle.pr_machine.specs.Stands.{Stands, History}
use Rattle.pr_run_script.specs.Script.{most_cycles}
use Rattle.pr_run_script.specs.Counts.{cycles_in}
use Rattle.pr_run.specs.Turns.{Going}
use Rattle.pr_run.proofs.Lines.{nothing_appended}
use Rattle.pr_base.specs.declared.fabrics.Fabric.{Fabric}
use Rattle.pr_tool_answers.specs.declared.answers.Answer.{Answer}
use Rattle.pr_tool_modes.specs.declared.benches.Bench.{Bench}
use Rattle.pr_tool_modes.specs.declared.targets.Target.{Target}
use Rattle.pr_tool_modes.specs.Calls.{Call}
use Rattle.pr_tool_modes.specs.Evaluations as evaluations
use Rattle.pr_tool_modes.specs.Evaluations.{HasNoResult, HasResult, IsEvaluated}
use Rattle.pr_tool_modes.specs.Executions.{HasRan, HasNoRun, HasCome}
use Rattle.pr_tool_modes.specs.Files.{IsText}
use Rattle.pr_tool_modes.specs.Jobs.{Job, first_of}
use Rattle.pr_tool_modes.specs.Lines.{ByAnswer, HasAllLines, HasFirstLines, AreEvalLines, HasRunOn, HasBegunOn, OnBench, IsWholeRun, IsReadRun, IsCutRun, IsNoRun, IsUnreadRun, samples_file, AreRunLines, MeansLines, AreProgramLines, NoMore, AreConfigurationLines}
use Rattle.pr_tool_modes.specs.Programs.{inputs_of, HasProgram}
use Rattle.pr_tool_modes.specs.Runs.{Course, course, ends_well, HasAll, IsWhole, IsBroken, IsStopped, IsEnd}
use Rattle.pr_tool_modes.specs.Samples.{fed_in, fed_at_most, fed_whole, pieces}
use Rattle.pr_tool_modes.specs.Sources.{ConfSource, Text, name_in, most_in, Gives}
use Rattle.pr_tool_modes.specs.Stalls.{HasStall}
use Rattle.pr_tool_modes.specs.Unlogged.{GainsLines, GainsFirst}
use Rattle.pr_tool_modes.proofs.CompileLaws.{is_meant}
use Rattle.pr_tool_modes.proofs.EvalVerdicts.{program_kind}
use Rattle.pr_tool_modes.proofs.FedLemmas.{fed_rows, fed_limit, short_fed, long_fed}
use Rattle.pr_tool_modes.proofs.ReasonLemmas.{is_of_samples, refuses, IsKind}
use Rattle.pr_tool_modes.proofs.RunVerdicts.{refusal_is}
use Rattle.pr_tool_modes.proofs.SourceLemmas.{of_fabric}
use Rattle.pr_tool_modes.proofs.UnloggedLemmas.{gains_longer}

-- ---- answers
limit_lines : (all : Ending → Type 0) (read cut none : Type 0) (which : Cap) → MatchBool (is_of_samples which) (all (Limit which)) none → ByAnswer all read cut none (Answer.Limit which)
limit_lines all read cut none Cap.ProgramBytes h = h
limit_lines all read cut none Cap.Nesting h = h
limit_lines all read cut none Cap.Turns h = h
limit_lines all read cut none Cap.Equations h = h
limit_lines all read cut none Cap.InputBytes h = h
limit_lines all read cut none Cap.Outputs h = h
limit_lines all read cut none Cap.Units h = h
limit_lines all read cut none Cap.StallBytes h = h
limit_lines all read cut none Cap.ConfigBytes h = h
limit_lines all read cut none Cap.SampleBytes h = h
limit_lines all read cut none Cap.Samples h = h
limit_lines all read cut none Cap.ListBytes h = h

-- samples ended by this limit
all_limit : (all : Ending → Type 0) (read cut none : Type 0) (which : Cap) → is_of_samples which ≡ true → all (Limit which) → ByAnswer all read cut none (Answer.Limit which)
all_limit all read cut none which is h = limit_lines all read cut none which (subst (λ (b : Bool). MatchBool b (all (Limit which)) none) (sym is) h)

not_true : (b : Bool) → not b ≡ true → b ≡ false
not_true true e = absurd (true≢false (sym e))
not_true false e = refl

-- a text was refused
refused_lines : (all : Ending → Type 0) (read cut none : Type 0) (a : Answer) → refuses a ≡ true → none → ByAnswer all read cut none a
refused_lines all read cut none (Answer.Limit which) is h = limit_lines all read cut none which (subst (λ (b : Bool). MatchBool b (all (Limit which)) none) (sym (not_true (is_of_samples which) is)) h)
refused_lines all read cut none Answer.Ok is h = absurd (true≢false (sym is))
refused_lines all read cut none (Answer.BadSample line) is h = absurd (true≢false (sym is))
refused_lines all read cut none Answer.ReadFault is h = absurd (true≢false (sym is))
refused_lines all read cut none Answer.WriteFault is h = absurd (true≢false (sym is))
refused_lines all read cut none a is h = h

-- nothing came of the first files
kind_lines : (all : Ending → Type 0) (read cut none : Type 0) (cause : Type 0) (a : Answer) → IsKind cause a → read → none → ByAnswer all read cut none a
kind_lines all read cut none cause a (inl refused) r h = refused_lines all read cut none a refused h
kind_lines all read cut none cause a (inr (inl is)) r h = subst (ByAnswer all read cut none) (sym is.0) r
kind_lines all read cut none cause a (inr (inr memory)) r h = subst (ByAnswer all read cut none) (sym memory) h

-- ---- lines of the first samples
-- the lines of the first samples are the first lines
front_of : (program : Program) (rows all : List (List ℕ)) (log : Bool) (old new : Tape) → rows ≡ take (length rows) all → GainsFirst log old new (written (out program rows)) → GainsFirst log old new (written (out program all))
front_of program rows all log old new first text =
    let n = length rows in
    let rest = drop n all in
    let parts : rows ++ rest ≡ all = ap (λ (xs : List (List ℕ)). xs ++ rest) first ∙ take-append-drop n all in
    let begins : out program rows ≡ take n (out program all) = sym (take-out program rows rest) ∙ ap (λ (xs : List (List ℕ)). take n (out program xs)) parts in
    let lines : written (out program rows) ++ written (drop n (out program all)) ≡ written (out program all) =
    sym (flat_map-append row_line (out program rows) (drop n (out program all)))
    ∙ ap written (ap (λ (xs : List (List ℕ)). xs ++ drop n (out program all)) begins ∙ take-append-drop n (out program all)) in
    subst (λ (t : List ℕ). GainsFirst log old new t) lines (gains_longer log old new (written (out program rows)) (written (drop n (out program all))) text)

-- ---- an evaluation
-- the samples of the file that was read are those of this one
same_fed : (files : List ℕ → Option (List ℕ)) (second widths : List ℕ) (rows : List (List ℕ)) (ending : Ending) → (has : evaluations.HasSamples (Some files) second widths rows ending) → fed_whole widths (unwrap_or (files second) []) ≡ fed_in widths has.text
same_fed files second widths rows ending has =
    ap (λ (o : Option (List ℕ)). fed_whole widths (unwrap_or o [])) has.file ∙ short_fed widths has.text has.short

all_eval : (files : List ℕ → Option (List ℕ)) (first second widths : List ℕ) (program : Program) (old new : Tape) (ending : Ending) → HasProgram (Some files) first program widths
    → evaluations.IsWhole (Some files) second program ending old new → HasAllLines files first (unwrap_or (files second) []) old new ending
all_eval files first second widths program old new ending has whole =
    let same = same_fed files second (inputs_of program) whole.rows ending whole.samples in
    record {
      program = program;
      widths = widths;
      has = has;
      ends = ap (λ (k : Fed). k.ending) same ∙ whole.samples.ends;
      text = subst (λ (xs : List (List ℕ)). Appends old new (written (out program xs))) (whole.samples.all ∙ sym (ap (λ (k : Fed). k.samples) same)) whole.text;
    }

first_eval : (files : List ℕ → Option (List ℕ)) (first second widths : List ℕ) (program : Program) (old new : Tape) → HasProgram (Some files) first program widths
    → evaluations.IsPrefix (Some files) second program old new → HasFirstLines files first (unwrap_or (files second) []) old new
first_eval files first second widths program old new has front =
    let same = same_fed files second (inputs_of program) front.rows front.ending front.samples in
    record {
      program = program;
      widths = widths;
      has = has;
      text = subst (λ (xs : List (List ℕ)). AppendsFront old new (written (out program xs))) (front.samples.all ∙ sym (ap (λ (k : Fed). k.samples) same)) front.text;
    }

-- no samples of a file that is too long
long_eval : (files : List ℕ → Option (List ℕ)) (first file widths : List ℕ) (program : Program) (old new : Tape) → HasProgram (Some files) first program widths → 16777216 < length file → new ≡ old
    → HasAllLines files first file old new (Limit Cap.SampleBytes)
long_eval files first file widths program old new has long same =
    let fed = long_fed (inputs_of program) file long in
    record {
      program = program;
      widths = widths;
      has = has;
      ends = ap (λ (k : Fed). k.ending) fed;
      text = subst (λ (k : Fed). Appends old new (written (out program k.samples))) (sym fed) (subst (λ (t : Tape). Appends old t []) (sym same) (nothing_appended old));
    }

ended_eval : (files : List ℕ → Option (List ℕ)) (first second widths : List ℕ) (program : Program) (k : Call) (a : Answer) → k.before.told ≡ Some files → HasProgram (Some files) first program widths
    → evaluations.IsEnd second program k a → AreEvalLines files first (unwrap_or (files second) []) k.old k.new a
ended_eval files first second widths program k Answer.Ok told has end = all_eval files first second widths program k.old k.new End has (subst (λ (t : Told). evaluations.IsWhole t second program End k.old k.new) told end)
ended_eval files first second widths program k (Answer.BadSample line) told has end = all_eval files first second widths program k.old k.new (BadSample line) has (subst (λ (t : Told). evaluations.IsWhole t second program (BadSample line) k.old k.new) told end)
ended_eval files first second widths program k (Answer.Limit which) told has (inl long) =
    let file : files second ≡ Some long.1.text = subst (λ (t : Told). IsText t second long.1.text) told long.1.file in
    let same : long.1.text ≡ unwrap_or (files second) [] = sym (ap (λ (o : Option (List ℕ)). unwrap_or o []) file) in
    let lines = long_eval files first (unwrap_or (files second) []) widths program k.old k.new has (subst (λ (t : List ℕ). 16777216 < length t) same long.1.long) long.2 in
    let text = unwrap_or (files second) [] in
    subst (λ (c : Cap). ByAnswer (HasAllLines files first text k.old k.new) (k.new ≡ k.old) (HasFirstLines files first text k.old k.new) (k.new ≡ k.old) (Answer.Limit c)) (sym long.0) lines
ended_eval files first second widths program k (Answer.Limit which) told has (inr end) =
    let whole = subst (λ (t : Told). evaluations.IsWhole t second program (Limit which) k.old k.new) told end in
    let text = unwrap_or (files second) [] in
    all_limit (HasAllLines files first text k.old k.new) (k.new ≡ k.old) (HasFirstLines files first text k.old k.new) (k.new ≡ k.old) which
    (fed_limit (2 ^ 40) (inputs_of program) whole.samples.text which whole.samples.ends) (all_eval files first second widths program k.old k.new (Limit which) has whole)
ended_eval files first second widths program k Answer.ReadFault told has end = end.1
ended_eval files first second widths program k Answer.WriteFault told has end = first_eval files first second widths program k.old k.new has (subst (λ (t : Told). evaluations.IsPrefix t second program k.old k.new) told end.0)
ended_eval files first second widths program k Answer.Memory told has end = end
ended_eval files first second widths program k a told has end = absurd end

-- what an evaluation came to says what it has written
pub eval_lines : (files : List ℕ → Option (List ℕ)) (first second : List ℕ) (k : Call) (a : Answer) → k.before.told ≡ Some files → IsEvaluated first second k a → AreEvalLines files first (unwrap_or (files second) []) k.old k.new a
eval_lines files first second k a told (inl none) =
    let text = unwrap_or (files second) [] in
    kind_lines (HasAllLines files first text k.old k.new) (k.new ≡ k.old) (HasFirstLines files first text k.old k.new) (k.new ≡ k.old) _ a (program_kind k.before.told first k.before.faults k.now.faults a none.cause) none.unwritten none.unwritten
eval_lines files first second k a told (inr has) = ended_eval files first second has.widths has.program k a told (subst (λ (t : Told). HasProgram t first has.program has.widths) told has.has) has.end

-- ---- a run
-- a run over told files that was begun, a bench that has its machine, and what more there is to say
record Ran (N P : ℕ) (further : List ℕ → List (List ℕ) → (List ℕ → Type 0) → Type 0) : Type 0 where
  pub files : List ℕ → Option (List ℕ)
  pub j : Job
  pub k : Call
  pub bench : Bench
  pub machine : Going N P
  pub answer : Answer
  pub told : k.before.told ≡ Some files
  pub has : HasRan j k machine answer
  pub on_run : (widths : List ℕ) (rows : List (List ℕ)) (good : Bool) → HasRunOn files j k widths rows good machine → OnBench (λ N P m. HasRunOn files j k widths rows good m) bench
  pub on_begun : (widths : List ℕ) (rows : List (List ℕ)) (good : Bool) → HasBegunOn files j k widths rows good machine → OnBench (λ N P m. HasBegunOn files j k widths rows good m) bench
  pub whole : (rows : List (List ℕ)) → rows ≡ take (length rows) (fed_at_most (most_in j.source) has.conf.inputs (samples_file files j)).samples
      → GainsLines j.log k.old k.new (written (result_numbers N P has.conf (pieces has.conf rows))) → further has.conf.inputs rows (GainsLines j.log k.old k.new)
  pub front : (rows : List (List ℕ)) → rows ≡ take (length rows) (fed_at_most (most_in j.source) has.conf.inputs (samples_file files j)).samples
      → GainsFirst j.log k.old k.new (written (result_numbers N P has.conf (pieces has.conf rows))) → further has.conf.inputs rows (GainsFirst j.log k.old k.new)
  pub longer : (rows all : List (List ℕ)) → rows ≡ take (length rows) all → further has.conf.inputs rows (GainsFirst j.log k.old k.new) → further has.conf.inputs all (GainsFirst j.log k.old k.new)

module _ {N P : ℕ} {further : List ℕ → List (List ℕ) → (List ℕ → Type 0) → Type 0} (r : Ran N P further) where
  -- its samples, and those of the file
  abbrev rows_of : List (List ℕ)
  rows_of = r.has.run.run.rows

  abbrev file_of : List ℕ
  file_of = samples_file r.files r.j

  abbrev fed_by : Fed
  fed_by = fed_at_most (most_in r.j.source) r.has.conf.inputs file_of

  abbrev course_of : Course
  course_of = course r.has.conf r.j.stripes r.has.run.turns r.j.log (most_in r.j.source) r.j.second r.has.run.start r.k.now r.k.old r.k.new

  start_told : r.has.run.start.told ≡ Some r.files
  start_told = r.has.run.later.told ∙ r.told

  file_is : (file : List ℕ) → r.files r.j.second ≡ Some file → file_of ≡ file
  file_is file there = ap (λ (o : Option (List ℕ)). unwrap_or o []) there

  tells : (file : List ℕ) → r.files r.j.second ≡ Some file → Tells r.has.run.start.told r.j.second file
  tells file there = subst (λ (t : Told). Tells t r.j.second file) (sym start_told) there

  missing : r.files r.j.second ≡ None → IsMissing r.has.run.start.told r.j.second
  missing none = subst (λ (t : Told). IsMissing t r.j.second) (sym start_told) none

  rows_first : rows_of ≡ take (length rows_of) fed_by.samples
  rows_first = elim (r.files r.j.second) as (λ o. r.files r.j.second ≡ o → rows_of ≡ take (length rows_of) (fed_at_most (most_in r.j.source) r.has.conf.inputs (unwrap_or o [])).samples) [
    | None ↦ λ e. (let none = r.has.run.run.unread (missing e) in none ∙ sym (ap (λ (xs : List (List ℕ)). take (length xs) (fed_at_most (most_in r.j.source) r.has.conf.inputs []).samples) none))
    | Some file ↦ λ e. r.has.run.run.first file (tells file e)
  ] refl

  -- all samples of the file
  rows_all : (ending : Ending) → HasAll course_of rows_of ending → (rows_of ≡ fed_by.samples) × (fed_by.ending ≡ ending)
  rows_all ending all = elim (r.files r.j.second) as (λ o. r.files r.j.second ≡ o → (rows_of ≡ (fed_at_most (most_in r.j.source) r.has.conf.inputs (unwrap_or o [])).samples) × ((fed_at_most (most_in r.j.source) r.has.conf.inputs (unwrap_or o [])).ending ≡ ending)) [
    | None ↦ λ e. absurd (all.there (missing e))
    | Some file ↦ λ e. (all.all file (tells file e), all.ends file (tells file e))
  ] refl

  -- the machine was asked all events
  run_on : (good : Bool) → IsWhole N P course_of rows_of r.has.run.run.history good → HasRunOn r.files r.j r.k r.has.conf.inputs rows_of good r.machine
  run_on good whole = record {
    conf = r.has.conf;
    gives = subst (λ (t : Told). Gives t r.j.source N P r.has.conf) r.told r.has.gives;
    inputs = refl;
    turns = r.has.run.turns;
    stall = subst (λ (t : Told). HasStall t r.j.stall r.has.run.turns) r.told r.has.run.stall;
    stands = subst (λ (h : History). Stands r.machine r.has.conf r.j.stripes h) whole.events r.has.run.run.stands;
    cycles = subst (λ (h : History). cycles_in h ≤ most_cycles (length r.has.conf.stages) r.j.stripes r.has.run.turns (length rows_of)) whole.events r.has.run.run.cycles;
    text = whole.text;
    results = whole.results;
  }

  whole_run : (ending : Ending) → HasAll course_of rows_of ending → IsWhole N P course_of rows_of r.has.run.run.history (ends_well ending) → IsWholeRun further r.files r.j file_of r.k r.bench ending
  whole_run ending all whole =
      let same = rows_all ending all in
      let on = r.on_run r.has.conf.inputs rows_of (ends_well ending) (run_on (ends_well ending) whole) in
      record {
        widths = r.has.conf.inputs;
        ends = same.1;
        ran = subst (λ (xs : List (List ℕ)). OnBench (λ N P m. HasRunOn r.files r.j r.k r.has.conf.inputs xs (ends_well ending) m) r.bench) same.0 on;
        means = subst (λ (xs : List (List ℕ)). further r.has.conf.inputs xs (GainsLines r.j.log r.k.old r.k.new)) same.0 (r.whole rows_of rows_first whole.results);
      }

  read_run : IsBroken course_of rows_of → IsWhole N P course_of rows_of r.has.run.run.history false → IsReadRun further r.files r.j file_of r.k r.bench
  read_run broken whole = record {
    widths = r.has.conf.inputs;
    rows = rows_of;
    first = rows_first;
    ran = r.on_run r.has.conf.inputs rows_of false (run_on false whole);
    means = r.whole rows_of rows_first whole.results;
    reached = λ reach there kept start now. broken.reached reach (r.has.run.later.reach r.j.second kept ∙ start) now file_of (tells file_of there);
  }

  cut_run : IsStopped N P course_of rows_of r.has.run.run.history → IsCutRun further r.files r.j file_of r.k r.bench
  cut_run stopped =
      let means = r.front rows_of rows_first stopped.begun.results in
      record {
        widths = r.has.conf.inputs;
        rows = rows_of;
        first = rows_first;
        closing = stopped.closing;
        over = λ closing. (
            let all = (stopped.over closing).0 in
            let same = rows_all End all in
            record { there = λ none. all.there (missing none); all = same.0; ends = same.1 });
        ran = r.on_begun r.has.conf.inputs rows_of stopped.closing (record {
          conf = r.has.conf;
          gives = subst (λ (t : Told). Gives t r.j.source N P r.has.conf) r.told r.has.gives;
          inputs = refl;
          turns = r.has.run.turns;
          stall = subst (λ (t : Told). HasStall t r.j.stall r.has.run.turns) r.told r.has.run.stall;
          history = r.has.run.run.history;
          stands = r.has.run.run.stands;
          events = stopped.begun.events;
          cycles = r.has.run.run.cycles;
          text = stopped.begun.text;
          results = stopped.begun.results;
        });
        means = means;
        all = r.longer rows_of fed_by.samples rows_first means;
      }

  ended_run : (was : Bench) (a : Answer) → IsEnd N P course_of rows_of r.has.run.run.history a → AreRunLines further r.files r.j r.k was r.bench a
  ended_run was Answer.Ok end = whole_run End end.0 end.1
  ended_run was (Answer.BadSample line) end = whole_run (BadSample line) end.0 end.1
  ended_run was (Answer.Limit which) end =
      all_limit (IsWholeRun further r.files r.j file_of r.k r.bench) (IsUnreadRun r.j r.k was r.bench ⊎ IsReadRun further r.files r.j file_of r.k r.bench) (IsCutRun further r.files r.j file_of r.k r.bench) (IsNoRun r.k was r.bench) which
      (fed_limit (most_in r.j.source) r.has.conf.inputs file_of which (rows_all (Limit which) end.0).1) (whole_run (Limit which) end.0 end.1)
  ended_run was Answer.ReadFault end = inr (read_run end.0 end.1)
  ended_run was Answer.WriteFault end = cut_run end
  ended_run was a end = absurd end

-- no run was begun
no_run : (further : List ℕ → List (List ℕ) → (List ℕ → Type 0) → Type 0) (files : List ℕ → Option (List ℕ)) (j : Job) (k : Call) (was bench : Bench) (a : Answer) → HasNoRun j k was bench a → AreRunLines further files j k was bench a
no_run further files j k was bench a none =
    let same : IsNoRun k was bench = record { unwritten = none.unwritten; kept = none.kept } in
    let file = samples_file files j in
    kind_lines (IsWholeRun further files j file k bench) (IsUnreadRun j k was bench ⊎ IsReadRun further files j file k bench) (IsCutRun further files j file k bench) (IsNoRun k was bench) _ a (refusal_is j k a none.cause)
    (inl (record { none = same; unread = none.unread j.second })) same

-- ---- a run of a configuration
configuration_ran : {N P : ℕ} (files : List ℕ → Option (List ℕ)) (j : Job) (k : Call) (was bench : Bench) (machine : Going N P) (a : Answer) → k.before.told ≡ Some files → (has : HasRan j k machine a)
    → ((widths : List ℕ) (rows : List (List ℕ)) (good : Bool) → HasRunOn files j k widths rows good machine → OnBench (λ N P m. HasRunOn files j k widths rows good m) bench)
    → ((widths : List ℕ) (rows : List (List ℕ)) (good : Bool) → HasBegunOn files j k widths rows good machine → OnBench (λ N P m. HasBegunOn files j k widths rows good m) bench)
    → AreRunLines NoMore files j k was bench a
configuration_ran {N} {P} files j k was bench machine a told has on_run on_begun =
    let r : Ran N P NoMore = record {
      files = files;
      j = j;
      k = k;
      bench = bench;
      machine = machine;
      answer = a;
      told = told;
      has = has;
      on_run = on_run;
      on_begun = on_begun;
      whole = λ rows first results. tt;
      front = λ rows first results. tt;
      longer = λ rows all first means. tt;
    } in
    ended_run r was a has.run.run.end

pub configuration_lines : (files : List ℕ → Option (List ℕ)) (j : Job) (k : Call) (was bench : Bench) (a : Answer) → k.before.told ≡ Some files → HasCome j k was bench a → AreConfigurationLines files j k was bench a
configuration_lines files j k was bench a told (inl none) = no_run NoMore files j k was bench a none
configuration_lines files j k was (Bench.Base machine) a told (inr has) = configuration_ran files j k was (Bench.Base machine) machine a told has (λ ws xs g h. h) (λ ws xs g h. h)
configuration_lines files j k was (Bench.Wide machine) a told (inr has) = configuration_ran files j k was (Bench.Wide machine) machine a told has (λ ws xs g h. h) (λ ws xs g h. h)
configuration_lines files j k was Bench.Nothing a told (inr has) = absurd has

-- ---- a run of a program
-- the program of a text that was compiled
pub record IsProgramOf (files : List ℕ → Option (List ℕ)) (j : Job) (N P : ℕ) (conf : Shape) : Type 0 where
  pub program : Program
  pub widths : List ℕ
  pub has : HasProgram (Some files) (first_of j) program widths
  pub means : IsMeant N P program conf

pub two_registers : (fabric : Fabric) → 2 ≤ registers fabric
two_registers Fabric.Base = omega arith
two_registers Fabric.Wide = omega arith

pub program_in : (files : List ℕ → Option (List ℕ)) (j : Job) (name : List ℕ) (target : Target) (N P : ℕ) (conf : Shape) → j.source ≡ Text name target → Gives (Some files) j.source N P conf → IsProgramOf files j N P conf
program_in files j name target N P conf is gives =
    let on = subst (λ (s : ConfSource). Gives (Some files) s N P conf) is gives in
    let has = of_fabric (Some files) name target N P conf on in
    let c = has.is in
    let meant = is_meant (columns target.fabric) (registers target.fabric) target.narrowed has.text c.program c.widths conf (two_registers target.fabric) c.has c in
    record {
      program = c.program;
      widths = c.widths;
      has = subst (λ (s : ConfSource). HasProgram (Some files) (name_in s) c.program c.widths) (sym is) (record { text = has.text; file = has.file; short = has.short; has = c.has });
      means = subst (λ (n : ℕ). IsMeant n P c.program conf) (sym on.columns_are) (subst (λ (p : ℕ). IsMeant (columns target.fabric) p c.program conf) (sym on.registers_are) meant);
    }

-- the lines of the configuration's results are those of the program
lines_same : {N P : ℕ} (files : List ℕ → Option (List ℕ)) (j : Job) (conf : Shape) (p : IsProgramOf files j N P conf) (rows : List (List ℕ)) → rows ≡ take (length rows) (fed_at_most (most_in j.source) conf.inputs (samples_file files j)).samples
    → written (result_numbers N P conf (pieces conf rows)) ≡ written (out p.program rows)
lines_same files j conf p rows first =
    let all = fed_rows (most_in j.source) conf.inputs (samples_file files j) in
    let fed : All (IsRow conf.inputs) rows = subst (All (IsRow conf.inputs)) (sym first) (All-take (IsRow conf.inputs) (length rows) (fed_at_most (most_in j.source) conf.inputs (samples_file files j)).samples all) in
    ap written (p.means.numbers rows fed)

program_ran : {N P : ℕ} (files : List ℕ → Option (List ℕ)) (j : Job) (name : List ℕ) (target : Target) (k : Call) (was bench : Bench) (machine : Going N P) (a : Answer) → j.source ≡ Text name target → k.before.told ≡ Some files → (has : HasRan j k machine a)
    → ((widths : List ℕ) (rows : List (List ℕ)) (good : Bool) → HasRunOn files j k widths rows good machine → OnBench (λ N P m. HasRunOn files j k widths rows good m) bench)
    → ((widths : List ℕ) (rows : List (List ℕ)) (good : Bool) → HasBegunOn files j k widths rows good machine → OnBench (λ N P m. HasBegunOn files j k widths rows good m) bench)
    → AreProgramLines files j k was bench a
program_ran {N} {P} files j name target k was bench machine a is told has on_run on_begun =
    let p = program_in files j name target N P has.conf is (subst (λ (t : Told). Gives t j.source N P has.conf) told has.gives) in
    let r : Ran N P (MeansLines files j) = record {
      files = files;
      j = j;
      k = k;
      bench = bench;
      machine = machine;
      answer = a;
      told = told;
      has = has;
      on_run = on_run;
      on_begun = on_begun;
      whole = λ rows first results. record {
        program = p.program;
        equation_widths = p.widths;
        has = p.has;
        inputs = sym p.means.inputs;
        lines = subst (λ (t : List ℕ). GainsLines j.log k.old k.new t) (lines_same files j has.conf p rows first) results;
      };
      front = λ rows first results. record {
        program = p.program;
        equation_widths = p.widths;
        has = p.has;
        inputs = sym p.means.inputs;
        lines = subst (λ (t : List ℕ). GainsFirst j.log k.old k.new t) (lines_same files j has.conf p rows first) results;
      };
      longer = λ rows all first means. record {
        program = means.program;
        equation_widths = means.equation_widths;
        has = means.has;
        inputs = means.inputs;
        lines = front_of means.program rows all j.log k.old k.new first means.lines;
      };
    } in
    ended_run r was a has.run.run.end

pub program_lines : (files : List ℕ → Option (List ℕ)) (j : Job) (name : List ℕ) (target : Target) (k : Call) (was bench : Bench) (a : Answer) → j.source ≡ Text name target → k.before.told ≡ Some files → HasCome j k was bench a → AreProgramLines files j k was bench a
program_lines files j name target k was bench a is told (inl none) = no_run (MeansLines files j) files j k was bench a none
program_lines files j name target k was (Bench.Base machine) a is told (inr has) = program_ran files j name target k was (Bench.Base machine) machine a is told has (λ ws xs g h. h) (λ ws xs g h. h)
program_lines files j name target k was (Bench.Wide machine) a is told (inr has) = program_ran files j name target k was (Bench.Wide machine) machine a is told has (λ ws xs g h. h) (λ ws xs g h. h)
program_lines files j name target k was Bench.Nothing a is told (inr has) = absurd has
