use Rattle.std.proofs.Common.{[], ◌∷◌}
use Rattle.pr_flat_ops.proofs.Wrapping.{finished}
use Rattle.pr_flat_ops.proofs.results.operate_two.Goals as goal

pub returns-clause-number : goal.returns-clause-number
returns-clause-number c = finished c.args.op (c.args.a ∷ c.args.b ∷ []) c.wrapped_two.result c.width_two.result c.narrowed.result c.wrapped_two.ensures c.width_two.ensures c.narrowed.ensures
