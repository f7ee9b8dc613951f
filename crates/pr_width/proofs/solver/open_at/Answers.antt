use Rattle.std.proofs.Common.{arith, refl, sym, ◌∙◌}
use Rattle.pr_width.proofs.SolverLemmas.{open_read}
use Rattle.pr_width.proofs.solver.open_at.Goals as goal

pub returns-in-Rec-clause-there : goal.returns-in-Rec-clause-there
returns-in-Rec-clause-there c = (open_read c.args.flat.now.equations.items c.args.number c.index-equation.result.now (record { number = c.args.number; first = c.in-Rec.first; init = c.in-Rec.init }) (omega (arith, c.args.flat.now.equations.ok.0)) c.index-equation.ensures refl c.in-Rec.is (sym c.is_some.ensures ∙ c.if-is_some.false), refl)
