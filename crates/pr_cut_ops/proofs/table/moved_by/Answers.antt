use Rattle.std.proofs.Common.{◌∙◌, ap₂, List, arith}
use Rattle.std.specs.Cow.{cow_slice_items}
use Rattle.pr_net.specs.declared.cells.Slice.{Slice}
use Rattle.pr_cut_units.specs.Parts.{Making, units_after, slices_after}
use Rattle.pr_cut_units.specs.Operators.{extracted}
use Rattle.pr_cut_units.specs.Shifts.{shifted_by}
use Rattle.pr_cut_ops.proofs.LastCalls.{then_made, none_made}
use Rattle.pr_cut_ops.proofs.table.moved_by.Goals as goal

pub returns : goal.returns
returns c =
    let us = c.args.units.now.items in
    let w = c.args.a.now.width in
    let rows : List Slice → List Slice → Making = λ by x. shifted_by c.args.left w by c.args.by.now.width x in
    let was = c.in_ok-all.ensures in
    then_made 1 128 300 (rows (cow_slice_items c.args.by.now.slices) (cow_slice_items c.args.a.now.slices)) (λ x. extracted c.args.e w 0 x) _ _ _ c.in_ok-all.all.items _ _
    (was.units ∙ ap₂ (λ (by x : List Slice). units_after us (rows by x)) c.deref.ensures.value c.deref-2.ensures.value)
    (was.slices ∙ ap₂ (λ (by x : List Slice). slices_after us (rows by x)) c.deref.ensures.value c.deref-2.ensures.value)
    (omega (arith, was.grows)) c.extracted.ensures c.deref-3.ensures.value (omega arith)

pub returns-in_err-all : goal.returns-in_err-all
returns-in_err-all c = none_made _ _ _ _ _ c.from_residual.ensures.0
