use Rattle.std.proofs.Common.{◌≡◌, ◌<◌, get_or, bit_and, ap, subst, ◌∙◌}
use Rattle.pr_lanes.proofs.Blocks.{byte_of_lane}
use Rattle.pr_lanes.specs.Rows.{row_by}
use Rattle.pr_lanes.specs.Lanes.{HasLanes}
use Rattle.pr_stripe_prepared.specs.Operands.{found, summed, result_k, carry_k}
use Rattle.pr_lanes.proofs.LaneLaws.{as_row, same_lanes}
use Rattle.pr_stripe_prepared.proofs.results.results.Goals as goal

pub returns-clause-outputs : goal.returns-clause-outputs
returns-clause-outputs c =
    let q = c.args.q.now in
    let a = c.args.a in
    let x = c.look_up_all-x.result in
    let is : x ≡ row_by 16 (found q a c.args.b c.args.c) = as_row 16 x (found q a c.args.b c.args.c) c.look_up_all-x.ensures.lanes in
    same_lanes 16 c.masked.result _ (result_k q a (row_by 16 (found q a c.args.b c.args.c)) c.args.c) c.masked.ensures (λ k l.
    ap (λ s. bit_and s (get_or c.row_of.result k 0)) (c.sum_all.ensures.sums.each k l ∙ ap (λ xs. summed q a xs c.args.c k) is)
    ∙ ap (λ ms. bit_and (summed q a (row_by 16 (found q a c.args.b c.args.c)) c.args.c k) (get_or ms k 0)) c.row_of.ensures.is)

pub returns-clause-carries : goal.returns-clause-carries
returns-clause-carries c = λ has.
    let q = c.args.q.now in
    let x = c.look_up_all-x.result in
    subst (λ xs. HasLanes 16 c.sum_all.result.1 (carry_k q c.args.a xs c.args.c)) (as_row 16 x (found q c.args.a c.args.b c.args.c) c.look_up_all-x.ensures.lanes) (c.sum_all.ensures.carries has)

pub returns-clause-operands : goal.returns-clause-operands
returns-clause-operands c = λ k l. (byte_of_lane c.args.a c.requires.a c.fits-a.1 k l, byte_of_lane c.args.b c.requires.b c.fits-b.1 k l)

pub returns-clause-found : goal.returns-clause-found
returns-clause-found c = λ k l. subst (λ y. y < 256) (c.look_up_all-x.ensures.lanes.each k l) (c.sum_all.ensures.small k l)

pub returns-clause-halves : goal.returns-clause-halves
returns-clause-halves c = c.look_up_all-x.ensures.bytes
