use Rattle.std.proofs.Common.{◌<◌, ◌≤◌, ◌∙◌, inl, inr, subst, sym, true≢false}
use Rattle.std.proofs.lemmas.Bool.{cases_lt}
use Rattle.pr_lens_log.specs.declared.windows.Part.{Part}
use Rattle.pr_lens_tool.specs.declared.outcomes.Outcome.{Outcome}
use Rattle.pr_lens_tool.specs.Logs.{IsUndrawn}
use Rattle.pr_lens_tool.proofs.LogLemmas.{drawing_is, unshown_is}
use Rattle.pr_lens_tool.proofs.logs.of_log.Goals as goal

pub returns-then-is_empty-clause-refused : goal.returns-then-is_empty-clause-refused
returns-then-is_empty-clause-refused g c =
    let told = (g.S.Shelf.view c.args.shelf.now).told in
    let name = c.args.name.now in
    let log = c.in_ok-log.log in
    let none : log.excerpt.part.end ≤ log.excerpt.part.start = c.is_empty.ensures.0 c.if-is_empty.true in
    subst (λ (o : Outcome). IsUndrawn c.args.window told name (g.S.Shelf.view c.args.shelf.now).faults (g.S.Shelf.view c.log_of.new.shelf).faults o) (sym c.unshown.ensures)
    (unshown_is c.args.window told name c.args.drawing log c.in_ok-log.ensures.read none)

pub returns-clause-drawn : goal.returns-clause-drawn
returns-clause-drawn g c =
    let log = c.in_ok-log.log in
    let part : Part = log.excerpt.part in
    let some : part.start < part.end = elim (cases_lt part.start part.end) [
      | inl less ↦ less
      | inr none ↦ absurd (true≢false (sym (c.is_empty.ensures.1 none) ∙ c.if-is_empty.false))
    ] in
    drawing_is c.args.window (g.S.Shelf.view c.args.shelf.now).told c.args.name.now c.args.drawing log c.in_ok-drawn.field-0.items c.in_ok-log.ensures.read some
    (c.in_ok-drawn.ensures c.args.window)
