use Rattle.std.proofs.Common.{ℕ, ◌+◌, ◌%◌, ◌<◌, ◌==◌, get_or, bit_and, bit_or, if◌then◌else◌, ap, ◌∙◌, arith}
use Rattle.pr_lanes.specs.Sums.{carry_from}
use Rattle.pr_stripe_prepared.specs.Operands.{given, first_of, second_of, carry_k}
use Rattle.pr_lanes.proofs.LaneLaws.{same_lanes}
use Rattle.pr_lanes.proofs.SumLaws.{carry_same}
use Rattle.pr_stripe_prepared.proofs.results.carries.Goals as goal

pub returns : goal.returns
returns c =
    let q = c.args.q.now in
    let a = c.args.a in
    let x = c.args.x in
    let first = λ (k : ℕ) (l : k < 16).
    c.joined.ensures.each k l
    ∙ ap (λ y. bit_or y (get_or c.masked-nothing.result k 0)) (c.masked-2.ensures.each k l ∙ ap (λ ys. bit_and (get_or a k 0) (get_or ys k 0)) c.row_of-low.ensures.is)
    ∙ ap (λ y. bit_or (bit_and (get_or a k 0) (get_or q.low k 0)) y) (c.masked-nothing.ensures.each k l
    ∙ ap (λ y. bit_and y (get_or c.row_of.result k 0)) (c.none_in.ensures.each k l)
    ∙ ap (λ ys. bit_and (if get_or x k 0 == 0 then 255 else 0) (get_or ys k 0)) c.row_of.ensures.is) in
    let second = λ (k : ℕ) (l : k < 16). c.masked-3.ensures.each k l ∙ ap (λ ys. bit_and (get_or x k 0) (get_or ys k 0)) c.row_of-low.ensures.is in
    let into = λ (k : ℕ) (l : k < 16).
    c.added-given.ensures.each k l
    ∙ ap (λ ys. (get_or ys k 0 + get_or c.masked.result k 0) % 256) c.row_of-2.ensures.is
    ∙ ap (λ y. (get_or q.cin k 0 + y) % 256) (c.masked.ensures.each k l ∙ ap (λ ys. bit_and (get_or c.args.c k 0) (get_or ys k 0)) c.row_of-3.ensures.is) in
    let column = λ (j : ℕ) (l : j < 16).
    ap (λ y. y + get_or c.masked-3.result j 0 + get_or c.added-given.result j 0) (first j l)
    ∙ ap (λ y. first_of q a x j + y + get_or c.added-given.result j 0) (second j l)
    ∙ ap (λ y. first_of q a x j + second_of q x j + y) (into j l) in
    same_lanes 16 c.carries_of.result _ (carry_k q a x c.args.c) c.carries_of.ensures (λ k l.
    ap (λ y. (y + carry_from 0 (λ j. get_or c.joined.result j 0 + get_or c.masked-3.result j 0 + get_or c.added-given.result j 0) k) % 256) (into k l)
    ∙ ap (λ y. (given q c.args.c k + y) % 256) (carry_same 0 _ (λ j. first_of q a x j + second_of q x j + given q c.args.c j) k (λ j h. column j (omega arith))))
