use Rattle.pr_tool_modes.specs.Calls.{call}
use Rattle.pr_tool_modes.specs.Jobs.{IsNamedOnce, IsNotNamed, IsNotBoth, IsApart, job_of, source_of}
use Rattle.pr_tool_modes.proofs.FoldVerdicts.{folded_of}
use Rattle.pr_tool_modes.proofs.RunVerdicts.{fresh_source}
use Rattle.pr_tool_modes.specs.Sources.{name_in}
use Rattle.pr_tool_modes.proofs.OrderLemmas.{order_once, orderly_one, orderly_after}
use Rattle.pr_tool_modes.proofs.folds.fold.Goals as goal

pub returns-in-Ok-clause-ended : goal.returns-in-Ok-clause-ended
returns-in-Ok-clause-ended g c =
    let mid = g.S.Shelf.view c.load.new.shelf in
    let k = call (g.S.Shelf.view c.args.shelf.now) (g.S.Shelf.view c.fold_from.new.shelf) (g.K.Sink.view c.args.out.now) (g.K.Sink.view c.fold_from.new.out) in
    folded_of (job_of c.args.job.now) k mid c.in-Ok.conf 0 c.fold_from.result c.in-Ok.ensures.gives (fresh_source c.args.job.now.source) c.load.ensures.same c.in-Ok.ensures.steady c.load.ensures.others
    (c.fold_from.ensures.ended (source_of c.args.job.now.source) (fresh_source c.args.job.now.source))

pub returns-in-Err-clause-orderly : goal.returns-in-Err-clause-orderly
returns-in-Err-clause-orderly g c =
    let j = job_of c.args.job.now in
    orderly_one (IsNamedOnce j) (IsNotNamed j) (g.S.Shelf.view c.args.shelf.now) (g.S.Shelf.view c.load.new.shelf) (name_in j.source)
    c.load.ensures.same (order_once _ _ _ c.load.ensures.once) c.load.ensures.others c.load.ensures.later (λ q other. other.1.0)

pub returns-in-Ok-clause-orderly : goal.returns-in-Ok-clause-orderly
returns-in-Ok-clause-orderly g c =
    let j = job_of c.args.job.now in
    orderly_after (IsNamedOnce j) (IsNotNamed j) (IsNotBoth j.second j.stall) (IsApart j.second j.stall) (g.S.Shelf.view c.args.shelf.now) (g.S.Shelf.view c.load.new.shelf) (g.S.Shelf.view c.fold_from.new.shelf) _ (name_in j.source)
    c.load.ensures.same c.load.ensures.once c.load.ensures.others c.load.ensures.later c.fold_from.ensures.orderly (λ q once. once) (λ q other. (other.1.0, (other.0, other.1.1)))
