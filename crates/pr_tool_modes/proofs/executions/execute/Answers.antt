use Rattle.pr_tool_modes.specs.Calls.{call}
use Rattle.pr_tool_modes.specs.Jobs.{IsNamedOnce, IsNotNamed, IsNotBoth, IsApart, source_of, job_of}
use Rattle.pr_tool_modes.specs.Sources.{name_in}
use Rattle.pr_tool_modes.proofs.OrderLemmas.{order_once, orderly_one, orderly_after}
use Rattle.pr_tool_modes.proofs.RunVerdicts.{come_of}
use Rattle.pr_tool_modes.proofs.executions.execute.Goals as goal

pub returns-in-Ok-clause-ended : goal.returns-in-Ok-clause-ended
returns-in-Ok-clause-ended g c =
    let mid = g.S.Shelf.view c.load.new.shelf in
    let k = call (g.S.Shelf.view c.args.shelf.now) (g.S.Shelf.view c.run_loaded.new.shelf) (g.K.Sink.view c.args.out.now) (g.K.Sink.view c.run_loaded.new.out) in
    come_of (job_of c.args.job.now) k mid c.in-Ok.loaded c.args.bench.now c.run_loaded.new.bench c.run_loaded.result c.in-Ok.ensures.gives c.load.ensures.same c.in-Ok.ensures.steady c.load.ensures.others c.run_loaded.ensures.ended

pub returns-in-Err-clause-orderly : goal.returns-in-Err-clause-orderly
returns-in-Err-clause-orderly g c =
    let j = job_of c.args.job.now in
    orderly_one (IsNamedOnce j) (IsNotNamed j) (g.S.Shelf.view c.args.shelf.now) (g.S.Shelf.view c.load.new.shelf) (name_in j.source)
    c.load.ensures.same (order_once _ _ _ c.load.ensures.once) c.load.ensures.others c.load.ensures.later (λ q other. other.1.0)

pub returns-in-Ok-clause-orderly : goal.returns-in-Ok-clause-orderly
returns-in-Ok-clause-orderly g c =
    let j = job_of c.args.job.now in
    orderly_after (IsNamedOnce j) (IsNotNamed j) (IsNotBoth j.second j.stall) (IsApart j.second j.stall) (g.S.Shelf.view c.args.shelf.now) (g.S.Shelf.view c.load.new.shelf) (g.S.Shelf.view c.run_loaded.new.shelf) _ (name_in j.source)
    c.load.ensures.same c.load.ensures.once c.load.ensures.others c.load.ensures.later c.run_loaded.ensures.orderly (λ q once. once) (λ q other. (other.1.0, (other.0, other.1.1)))
