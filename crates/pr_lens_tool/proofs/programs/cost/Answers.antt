use Rattle.std.proofs.Common.{refl}
use Rattle.pr_lens_tool.specs.Asked.{target_in}
use Rattle.pr_lens_tool.proofs.ProgramLemmas.{cost_told}
use Rattle.pr_lens_tool.proofs.programs.cost.Goals as goal

pub returns-in_ok-cost_as-in-Ok-clause-told : goal.returns-in_ok-cost_as-in-Ok-clause-told
returns-in_ok-cost_as-in-Ok-clause-told g c =
    let written = c.in_ok-cost_as-in-Ok in
    let savings = c.in_ok-savings-in-Ok in
    (refl, cost_told g.row.N g.row.P (target_in c.args.target.now) c.args.json c.args.samples c.args.text.now written.field-0.items c.in-Ok.cost savings.savings _ c.from.result c.in-Ok.ensures.cost refl savings.ensures.saved c.from.ensures written.ensures)
