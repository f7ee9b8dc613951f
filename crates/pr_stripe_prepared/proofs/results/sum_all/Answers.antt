use Rattle.std.proofs.Common.{ℕ, ◌+◌, ◌%◌, get_or, if◌then◌else◌, sym, ap, ◌∙◌}
use Rattle.pr_lanes.proofs.Blocks.{byte_of_lane}
use Rattle.pr_lanes.specs.Rows.{chosen}
use Rattle.pr_stripe_prepared.specs.Operands.{carry_k, summed}
use Rattle.pr_lanes.proofs.LaneLaws.{same_lanes}
use Rattle.pr_stripe_prepared.proofs.results.sum_all.Goals as goal

pub returns-then-q-clause-small : goal.returns-then-q-clause-small
returns-then-q-clause-small c = λ k l. byte_of_lane c.args.x c.requires.x c.fits-x.1 k l

pub returns-else-q-clause-small : goal.returns-else-q-clause-small
returns-else-q-clause-small c = λ k l. byte_of_lane c.args.x c.requires.x c.fits-x.1 k l

pub returns-then-q-clause-sums : goal.returns-then-q-clause-sums
returns-then-q-clause-sums c =
    let q = c.args.q.now in
    let a = c.args.a in
    let x = c.args.x in
    let sum = λ (k : ℕ). ((get_or a k 0 + get_or x k 0) % 256 + carry_k q a x c.args.c k) % 256 in
    same_lanes 16 c.choose.result _ (summed q a x c.args.c) c.choose.ensures.lanes (λ k l.
    ap (λ s. chosen (get_or x k 0) s (get_or c.row_of.result k 0)) (c.added-sums.ensures.each k l
    ∙ ap (λ y. (y + get_or c.carries-into.result k 0) % 256) (c.added.ensures.each k l)
    ∙ ap (λ y. ((get_or a k 0 + get_or x k 0) % 256 + y) % 256) (c.carries-into.ensures.each k l))
    ∙ ap (λ ys. chosen (get_or x k 0) (sum k) (get_or ys k 0)) c.row_of.ensures.is
    ∙ sym (ap (λ b. if b then chosen (get_or x k 0) (sum k) (get_or q.sums k 0) else get_or x k 0) c.if-q.true))
