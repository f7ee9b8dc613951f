use Rattle.std.proofs.Common.{◌∙◌, ◌≡◌, List, ℕ, Some, refl, sym, ap, subst}
use Rattle.std.proofs.lemmas.Result.{IfOk-from_err, err_from_is_err_and}
use Rattle.pr_edge.specs.Files.{Told}
use Rattle.pr_edge.specs.SureShelf.{view_of}
use Rattle.pr_edge.specs.MemSink.{view_of as written_of}
use Rattle.pr_tool_answers.specs.declared.answers.Answer.{Answer}
use Rattle.pr_tool_modes.specs.declared.benches.Bench.{Bench}
use Rattle.pr_tool_modes.specs.Calls.{call}
use Rattle.pr_tool_modes.specs.Executions.{IsRunOn}
use Rattle.pr_tool_modes.specs.Generations.{generation_of, program_file, HasGenerated}
use Rattle.pr_tool_modes.specs.Jobs.{Job, source_of, job_of as job_in}
use Rattle.pr_tool_modes.specs.Lines.{OnBench}
use Rattle.pr_tool_modes.specs.Programs.{IsCounted}
use Rattle.pr_tool_modes.specs.Sources.{columns_in, registers_in, shape_in, IsOnFabric}
use Rattle.pr_tool_modes.proofs.GenLemmas.{told_good, gen_untold}
use Rattle.pr_tool_modes.proofs.RunVerdicts.{fresh_source}
use Rattle.pr_tool_modes.proofs.generations.run_generated.Goals as goal

-- nothing is told of the run
pub returns-in_err-text-clause-refused : goal.returns-in_err-text-clause-refused
returns-in_err-text-clause-refused c =
    let k = call (view_of c.compile_file.new.shelf) (view_of c.run_either.new.shelf) (written_of c.in_ok-lines.lines) (written_of c.run_either.new.out) in
    let made = c.in_ok-made.made in
    let ran = c.in_ok-ran.ran in
    let gives = subst (λ (t : Told). IsOnFabric t program_file c.args.generation.now.target (columns_in made.loaded) (registers_in made.loaded) (shape_in made.loaded)) c.in_ok-shelf.ensures c.in_ok-made.ensures.compiled in
    let on = subst (λ (j : Job). IsRunOn made.loaded j k ran.bench ran.answer) c.job_of-job.ensures
    (c.in_ok-ran.ensures.ran (source_of c.job_of-job.result.source) (fresh_source c.job_of-job.result.source)) in
    let p = err_from_is_err_and c.from_residual-in_err-text.result c.from_residual-in_err-text.ensures.1 in
    rw (p.1, p.2) (gen_untold (generation_of c.args.generation.now) k made.loaded ran.bench ran.answer c.in_err-text.field-0.0 (c.compile_file.ensures.same ∙ c.in_ok-shelf.ensures) refl refl gives on c.in_err-text.ensures.refused)

pub returns-clause-told : goal.returns-clause-told
returns-clause-told c =
    let k = call (view_of c.compile_file.new.shelf) (view_of c.run_either.new.shelf) (written_of c.in_ok-lines.lines) (written_of c.run_either.new.out) in
    let made = c.in_ok-made.made in
    let ran = c.in_ok-ran.ran in
    let gives = subst (λ (t : Told). IsOnFabric t program_file c.args.generation.now.target (columns_in made.loaded) (registers_in made.loaded) (shape_in made.loaded)) c.in_ok-shelf.ensures c.in_ok-made.ensures.compiled in
    let counts = subst (λ (t : Told). IsCounted t program_file c.args.generation.now.target.narrowed made.units) c.in_ok-shelf.ensures c.in_ok-made.ensures.units in
    let on = subst (λ (j : Job). IsRunOn made.loaded j k ran.bench Answer.Ok) c.job_of-job.ensures
    (subst (λ (a : Answer). IsRunOn made.loaded (job_in c.job_of-job.result) k ran.bench a) c.in_ok-text.ensures.good (c.in_ok-ran.ensures.ran (source_of c.job_of-job.result.source) (fresh_source c.job_of-job.result.source))) in
    told_good (generation_of c.args.generation.now) k made.loaded ran.bench made.units c.bytes.result.now c.in_ok-text.text.items c.args.generation.now.least (c.compile_file.ensures.same ∙ c.in_ok-shelf.ensures)
    (ap (λ (b : List ℕ). Some b) c.in_ok-lines.ensures.bytes) (ap (λ (b : List ℕ). Some b) (sym c.bytes.ensures)) gives counts on c.in_ok-text.ensures.told

pub returns-in_err-shelf-clause-told : goal.returns-in_err-shelf-clause-told
returns-in_err-shelf-clause-told c = IfOk-from_err _ _ c.from_residual.ensures.0

pub returns-in_err-made-clause-told : goal.returns-in_err-made-clause-told
returns-in_err-made-clause-told c = IfOk-from_err _ _ c.from_residual-in_err-made.ensures.0

pub returns-in_err-lines-clause-told : goal.returns-in_err-lines-clause-told
returns-in_err-lines-clause-told c = IfOk-from_err _ _ c.from_residual-in_err-lines.ensures.0

pub returns-in_err-ran-clause-told : goal.returns-in_err-ran-clause-told
returns-in_err-ran-clause-told c = IfOk-from_err _ _ c.from_residual-in_err-ran.ensures.0

pub returns-in_err-text-clause-told : goal.returns-in_err-text-clause-told
returns-in_err-text-clause-told c = IfOk-from_err _ _ c.from_residual-in_err-text.ensures.0
