use Rattle.std.proofs.Common.{sym, subst}
use Rattle.pr_tool_modes.specs.declared.benches.Bench.{Bench}
use Rattle.pr_tool_modes.specs.declared.loadables.Loadable.{Loadable}
use Rattle.pr_tool_modes.specs.Calls.{call}
use Rattle.pr_tool_modes.specs.Executions.{IsRunOn}
use Rattle.pr_tool_modes.specs.Jobs.{job_on}
use Rattle.pr_tool_modes.proofs.executions.run_either.Goals as goal

pub returns-in_ok-over-in-Base-clause-ran : goal.returns-in_ok-over-in-Base-clause-ran
returns-in_ok-over-in-Base-clause-ran g c = λ source count. (
    let ran = c.in_ok-over-in-Base in
    let k = call (g.S.Shelf.view c.args.shelf.now) (g.S.Shelf.view c.run_on.new.shelf) (g.K.Sink.view c.args.out.now) (g.K.Sink.view c.run_on.new.out) in
    subst (λ (l : Loadable). IsRunOn l (job_on source c.args.run.now) k (Bench.Base ran.over.machine) ran.over.answer) (sym c.in-Base.is)
    (record { run = ran.ensures.ran source count; write_fault = ran.ensures.write_fault }))

pub returns-in_ok-over-in-Wide-clause-ran : goal.returns-in_ok-over-in-Wide-clause-ran
returns-in_ok-over-in-Wide-clause-ran g c = λ source count. (
    let ran = c.in_ok-over-in-Wide in
    let k = call (g.S.Shelf.view c.args.shelf.now) (g.S.Shelf.view c.run_on-in-Wide.new.shelf) (g.K.Sink.view c.args.out.now) (g.K.Sink.view c.run_on-in-Wide.new.out) in
    subst (λ (l : Loadable). IsRunOn l (job_on source c.args.run.now) k (Bench.Wide ran.over.machine) ran.over.answer) (sym c.in-Wide.is)
    (record { run = ran.ensures.ran source count; write_fault = ran.ensures.write_fault }))
