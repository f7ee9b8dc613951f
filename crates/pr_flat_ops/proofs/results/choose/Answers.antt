use Rattle.std.proofs.Common.{[], ◌∷◌}
use Rattle.pr_flat.specs.declared.equations.Op.TheVariants.{Choose}
use Rattle.pr_flat_ops.proofs.Wrapping.{finished}
use Rattle.pr_flat_ops.proofs.results.choose.Goals as goal

pub returns-clause-number : goal.returns-clause-number
returns-clause-number c = finished Choose (c.args.c ∷ c.args.a ∷ c.args.b ∷ []) c.branch-c.result c.wider.result c.narrowed.result c.branch-c.ensures c.wider.ensures c.narrowed.ensures
