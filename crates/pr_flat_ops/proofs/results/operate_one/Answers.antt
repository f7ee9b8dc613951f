use Rattle.std.proofs.Common.{[], ◌∷◌}
use Rattle.pr_flat_ops.proofs.Wrapping.{finished}
use Rattle.pr_flat_ops.proofs.results.operate_one.Goals as goal

pub returns-clause-number : goal.returns-clause-number
returns-clause-number c = finished c.args.op (c.args.a ∷ []) c.wrapped_one.result c.width_one.result c.narrowed.result c.wrapped_one.ensures c.width_one.ensures c.narrowed.ensures
