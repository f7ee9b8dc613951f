use Rattle.std.proofs.Common.{List, arith}
use Rattle.pr_net.specs.declared.cells.Slice.{Slice}
use Rattle.pr_cut_units.specs.Parts.{Making}
use Rattle.pr_cut_units.specs.Operators.{equal_at}
use Rattle.pr_cut_ops.proofs.LastCalls.{last_call, none_made}
use Rattle.pr_cut_ops.proofs.compared.both_equal.Goals as goal

pub returns : goal.returns
returns c =
    let making : List Slice → List Slice → Making = equal_at c.args.m c.args.closing in
    last_call 40 2 60 making _ _ _ _ _ _ _ _ _ c.carried_equal.ensures c.deref.ensures.value c.deref-2.ensures.value c.in_ok-both.ensures.grows (omega arith) (c.in_ok-both.ensures.units making) (c.in_ok-both.ensures.slices making)

pub returns-in_err-both : goal.returns-in_err-both
returns-in_err-both c = none_made _ _ _ _ _ c.from_residual.ensures.0
