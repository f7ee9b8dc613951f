use Rattle.std.proofs.Common.{◌∙◌, ap₂, List, arith}
use Rattle.std.specs.Cow.{cow_slice_items}
use Rattle.pr_net.specs.declared.cells.Slice.{Slice}
use Rattle.pr_cut_units.specs.Parts.{Making, units_after, slices_after}
use Rattle.pr_cut_units.specs.Widening.{flipped, read_as}
use Rattle.pr_cut_units.specs.Shifts.{shifted_back}
use Rattle.pr_cut_cells.specs.Arguments.{argument_of}
use Rattle.pr_cut_ops.proofs.LastCalls.{then_made, none_made}
use Rattle.pr_cut_ops.proofs.table.signed_moved_by.Goals as goal

pub returns : goal.returns
returns c =
    let us = c.args.units.now.items in
    let flip : List Slice → List Slice → Making = λ a x. flipped (read_as c.args.a.now.signed c.args.a.now.width a) x in
    let slices = cow_slice_items c.args.a.now.slices in
    let was = c.in_ok-x.ensures in
    then_made 300 1 302 (flip slices slices) (shifted_back c.args.e (argument_of c.args.a.now) (argument_of c.args.by.now)) _ _ _ c.in_ok-x.x.items _ _
    (was.units ∙ ap₂ (λ (a x : List Slice). units_after us (flip a x)) c.deref.ensures.value c.deref-2.ensures.value)
    (was.slices ∙ ap₂ (λ (a x : List Slice). slices_after us (flip a x)) c.deref.ensures.value c.deref-2.ensures.value)
    was.grows c.shifted_back.ensures c.deref-3.ensures.value (omega arith)

pub returns-in_err-x : goal.returns-in_err-x
returns-in_err-x c = none_made _ _ _ _ _ c.from_residual.ensures.0
