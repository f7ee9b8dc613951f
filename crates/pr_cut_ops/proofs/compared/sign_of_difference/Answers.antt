use Rattle.std.proofs.Common.{◌+◌, arith}
use Rattle.pr_cut_units.specs.Operators.{subtracted, sign_unit}
use Rattle.pr_cut_ops.proofs.LastCalls.{then_made, none_made}
use Rattle.pr_cut_ops.proofs.compared.sign_of_difference.Goals as goal

pub returns : goal.returns
returns c =
    let was = c.in_ok-difference.ensures in
    then_made 1 40 48 (subtracted (c.args.m + 1) c.args.x.now c.args.y.now) (sign_unit c.args.m c.args.table) _ _ _ c.in_ok-difference.difference.items _ _ was.units was.slices was.grows c.sign_unit.ensures c.deref.ensures.value (omega arith)

pub returns-in_err-difference : goal.returns-in_err-difference
returns-in_err-difference c = none_made _ _ _ _ _ c.from_residual.ensures.0
