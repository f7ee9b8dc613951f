use Rattle.std.proofs.Common.{List, ℕ, subst, inl}
use Rattle.pr_tool_modes.specs.Calls.{call}
use Rattle.pr_tool_modes.specs.Jobs.{job_on, IsNoStall}
use Rattle.pr_tool_modes.specs.Sources.{columns_in, registers_in, shape_in}
use Rattle.pr_tool_modes.specs.Texts.{IsPut}
use Rattle.pr_tool_modes.proofs.FoldVerdicts.{put_for}
use Rattle.pr_tool_modes.proofs.folds.fold_from.Goals as goal

pub returns-in-Ok-clause-ended : goal.returns-in-Ok-clause-ended
returns-in-Ok-clause-ended g c = λ source count. (
    let origin = c.args.origin in
    let j = job_on source c.args.run.now in
    let before = g.S.Shelf.view c.args.shelf.now in
    let now = g.S.Shelf.view c.fold_loaded.new.shelf in
    let k = call (g.S.Shelf.view c.args.shelf.now) (g.S.Shelf.view c.fold_loaded.new.shelf) (g.K.Sink.view c.args.out.now) (g.K.Sink.view c.put_mark.new.out) in
    let put = subst (λ (t : List ℕ). IsPut t k.old k.new k.out_before k.out_now c.put_mark.result) c.deref.ensures.value c.put_mark.ensures.put in
    inl (put_for (IsNoStall j) (shape_in origin.conf) j before now (columns_in origin.conf) (registers_in origin.conf) origin.before c.in-Ok.text.items k c.put_mark.result (c.in-Ok.ensures.marked source count) put))
