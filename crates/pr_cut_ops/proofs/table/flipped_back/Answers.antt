use Rattle.std.proofs.Common.{◌∙◌, ap, List, arith}
use Rattle.std.specs.Cow.{cow_slice_items}
use Rattle.pr_net.specs.declared.cells.Slice.{Slice}
use Rattle.pr_cut_units.specs.Parts.{Making, units_after, slices_after}
use Rattle.pr_cut_units.specs.Operators.{extracted}
use Rattle.pr_cut_units.specs.Widening.{flipped, read_as}
use Rattle.pr_cut_ops.proofs.LastCalls.{then_made, none_made}
use Rattle.pr_cut_ops.proofs.table.flipped_back.Goals as goal

pub returns : goal.returns
returns c =
    let us = c.args.units.now.items in
    let w = c.args.a.now.width in
    let flip : List Slice → Making = λ a. flipped (read_as c.args.a.now.signed w a) c.args.y.now in
    let was = c.in_ok-z.ensures in
    then_made 1 1 2 (flip (cow_slice_items c.args.a.now.slices)) (λ z. extracted c.args.e w 0 z) _ _ _ c.in_ok-z.z.items _ _
    (was.units ∙ ap (λ (a : List Slice). units_after us (flip a)) c.deref.ensures.value)
    (was.slices ∙ ap (λ (a : List Slice). slices_after us (flip a)) c.deref.ensures.value)
    was.grows c.extracted.ensures c.deref-2.ensures.value (omega arith)

pub returns-in_err-z : goal.returns-in_err-z
returns-in_err-z c = none_made _ _ _ _ _ c.from_residual.ensures.0
