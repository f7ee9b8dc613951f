use Rattle.std.proofs.Common.{Option, Result, IfOk, sym, subst}
use Rattle.std.specs.declared.alloc.AllocError.{AllocError}
use Rattle.pr_lens_cost.specs.declared.tables.Savings.{Savings}
use Rattle.pr_lens_tool.specs.Programs.{AreSavings}
use Rattle.pr_lens_tool.proofs.ProgramLemmas.{saved_by}
use Rattle.pr_lens_tool.proofs.programs.savings_of.Goals as goal

pub returns : goal.returns
returns g c = record {
  saved = subst (λ (r : Result (Option Savings) AllocError). IfOk r (AreSavings g.row.N g.row.P c.args.narrowed c.args.text.now)) (sym c.savings_in.ensures)
      (saved_by g.row.N g.row.P c.args.narrowed c.args.text.now c.cost_of-cost.result c.cost_of-cost.ensures.cost c.cost_of-cost.ensures.refused);
}
