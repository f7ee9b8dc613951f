use Rattle.std.proofs.Common.{◌∙◌, false, ap, List, arith}
use Rattle.std.specs.Cow.{cow_slice_items}
use Rattle.pr_net.specs.declared.cells.Slice.{Slice}
use Rattle.pr_cut_units.specs.Parts.{Making, units_after, slices_after}
use Rattle.pr_cut_units.specs.Shifts.{shifted_by, flipped_back}
use Rattle.pr_cut_cells.specs.Arguments.{argument_of}
use Rattle.pr_cut_ops.proofs.LastCalls.{then_made, none_made}
use Rattle.pr_cut_ops.proofs.table.shifted_back.Goals as goal

pub returns : goal.returns
returns c =
    let us = c.args.units.now.items in
    let rows : List Slice → Making = λ by. shifted_by false c.args.a.now.width by c.args.by.now.width c.args.x.now in
    let was = c.in_ok-y.ensures in
    then_made 2 128 300 (rows (cow_slice_items c.args.by.now.slices)) (flipped_back c.args.e (argument_of c.args.a.now)) _ _ _ c.in_ok-y.y.items _ _
    (was.units ∙ ap (λ (by : List Slice). units_after us (rows by)) c.deref.ensures.value)
    (was.slices ∙ ap (λ (by : List Slice). slices_after us (rows by)) c.deref.ensures.value)
    (omega (arith, was.grows)) c.flipped_back.ensures c.deref-2.ensures.value (omega arith)

pub returns-in_err-y : goal.returns-in_err-y
returns-in_err-y c = none_made _ _ _ _ _ c.from_residual.ensures.0
