use Rattle.std.proofs.Common.{List, arith}
use Rattle.pr_net.specs.declared.cells.Slice.{Slice}
use Rattle.pr_cut_units.specs.Parts.{Making}
use Rattle.pr_cut_units.specs.Products.{product}
use Rattle.pr_cut_ops.proofs.LastCalls.{last_call, none_made}
use Rattle.pr_cut_ops.proofs.compared.both_multiplied.Goals as goal

pub returns : goal.returns
returns c =
    let making : List Slice → List Slice → Making = λ x y. product c.args.e x c.args.widths.0 y c.args.widths.1 in
    let made = c.product.ensures in
    last_call 10240 2 20000 making _ c.args.units.now c.both_widened.new.units c.product.new.units c.product.result _ _ _ _ (record { grows = made.grows; units = made.units; slices = made.slices }) c.deref.ensures.value c.deref-2.ensures.value c.in_ok-both.ensures.grows (omega arith) (c.in_ok-both.ensures.units making) (c.in_ok-both.ensures.slices making)

pub returns-in_err-both : goal.returns-in_err-both
returns-in_err-both c = none_made _ _ _ _ _ c.from_residual.ensures.0
