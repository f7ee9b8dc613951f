use Rattle.std.proofs.Common.{refl}
use Rattle.pr_tool_modes.specs.Calls.{call}
use Rattle.pr_tool_modes.specs.Jobs.{IsNotBoth, IsApart, IsResumedOnce, resumption_of, resumed}
use Rattle.pr_tool_modes.specs.Resumptions.{IsNoFile}
use Rattle.pr_tool_modes.specs.Sources.{Mark}
use Rattle.pr_tool_modes.proofs.RunVerdicts.{come_of}
use Rattle.pr_tool_modes.proofs.OrderLemmas.{order_once, orderly_one, orderly_after}
use Rattle.pr_tool_modes.proofs.moves.move_on.Goals as goal

pub returns-in-Ok-clause-ended : goal.returns-in-Ok-clause-ended
returns-in-Ok-clause-ended g c =
    let origin = c.in-Ok.origin in
    let mid = g.S.Shelf.view c.read_checkpoint.new.shelf in
    let k = call (g.S.Shelf.view c.args.shelf.now) (g.S.Shelf.view c.run_from.new.shelf) (g.K.Sink.view c.args.out.now) (g.K.Sink.view c.run_from.new.out) in
    let ended = c.run_from.ensures.ended (Mark c.args.resumption.now.checkpoint.now origin.before) refl in
    (origin.before, come_of (resumed (resumption_of c.args.resumption.now) origin.before) k mid origin.conf c.args.bench.now c.run_from.new.bench c.run_from.result c.in-Ok.ensures.read c.read_checkpoint.ensures.same c.in-Ok.ensures.steady c.read_checkpoint.ensures.others ended)

pub returns-in-Err-clause-orderly : goal.returns-in-Err-clause-orderly
returns-in-Err-clause-orderly g c =
    let r = resumption_of c.args.resumption.now in
    orderly_one (IsResumedOnce r) (IsNoFile r) (g.S.Shelf.view c.args.shelf.now) (g.S.Shelf.view c.read_checkpoint.new.shelf) r.name
    c.read_checkpoint.ensures.same (order_once _ _ _ c.read_checkpoint.ensures.once) c.read_checkpoint.ensures.others c.read_checkpoint.ensures.later (λ q other. other.0)

pub returns-in-Ok-clause-orderly : goal.returns-in-Ok-clause-orderly
returns-in-Ok-clause-orderly g c =
    let r = resumption_of c.args.resumption.now in
    orderly_after (IsResumedOnce r) (IsNoFile r) (IsNotBoth r.second r.stall) (IsApart r.second r.stall) (g.S.Shelf.view c.args.shelf.now) (g.S.Shelf.view c.read_checkpoint.new.shelf) (g.S.Shelf.view c.run_from.new.shelf) _ r.name
    c.read_checkpoint.ensures.same c.read_checkpoint.ensures.once c.read_checkpoint.ensures.others c.read_checkpoint.ensures.later c.run_from.ensures.orderly (λ q once. once) (λ q other. (other.0, (other.1, other.2)))
