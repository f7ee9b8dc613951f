use Rattle.std.proofs.Common.{◌∙◌, ℕ, List, subst}
use Rattle.pr_tool_modes.specs.Files.{IsInOrder}
use Rattle.pr_tool_modes.specs.Jobs.{stall_in}
use Rattle.pr_tool_modes.proofs.OrderLemmas.{orderly_some, orderly_both}
use Rattle.pr_tool_modes.proofs.executions.run_on.Goals as goal

pub returns-in_err-stall-clause-orderly : goal.returns-in_err-stall-clause-orderly
returns-in_err-stall-clause-orderly g c =
    orderly_some (g.S.Shelf.view c.args.shelf.now) (g.S.Shelf.view c.read_stall.new.shelf) _ (stall_in c.args.run.now) c.args.run.now.samples.now
    c.read_stall.ensures.same c.read_stall.ensures.once c.read_stall.ensures.others c.read_stall.ensures.later

pub returns-in_err-ready-clause-orderly : goal.returns-in_err-ready-clause-orderly
returns-in_err-ready-clause-orderly g c =
    orderly_some (g.S.Shelf.view c.args.shelf.now) (g.S.Shelf.view c.read_stall.new.shelf) _ (stall_in c.args.run.now) c.args.run.now.samples.now
    c.read_stall.ensures.same c.read_stall.ensures.once c.read_stall.ensures.others c.read_stall.ensures.later

pub returns-clause-orderly : goal.returns-clause-orderly
returns-clause-orderly g c =
    let mid = g.S.Shelf.view c.read_stall.new.shelf in
    let now = g.S.Shelf.view c.run_all.new.shelf in
    let file = c.in_ok-ready.ensures.ready.opened.file in
    let samples = subst (λ (n : List ℕ). IsInOrder (mid.reach n) (now.reach n)) file c.run_all.ensures.once in
    orderly_both (g.S.Shelf.view c.args.shelf.now) mid _ (stall_in c.args.run.now) c.args.run.now.samples.now
    c.read_stall.ensures.same c.read_stall.ensures.once c.read_stall.ensures.others c.read_stall.ensures.later
    now c.run_all.ensures.told samples (λ p other. c.run_all.ensures.others p (λ e. other (e ∙ file))) c.run_all.ensures.shelf_later
