use Rattle.pr_lens_tool.proofs.BenchLemmas.{planned_is, trial_fits}
use Rattle.pr_lens_tool.proofs.benches.planned.Goals as goal

pub returns-clause-planned : goal.returns-clause-planned
returns-clause-planned g c =
    planned_is g.row.N g.row.P c.args.narrowed c.args.name.now c.args.seed c.args.text.now _ _ _ c.in-Ok.ensures.compiled c.in_ok-design.ensures

pub returns-clause-fit : goal.returns-clause-fit
returns-clause-fit g c = trial_fits c.args.text.now _ c.in-Ok.ensures.passed
