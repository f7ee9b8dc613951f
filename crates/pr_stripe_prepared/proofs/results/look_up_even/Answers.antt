use Rattle.std.proofs.Common.{◌<◌, get_or, bit_and, bit_xor, ap, sym, subst, ◌∙◌, List, ℕ}
use Rattle.pr_stripe_prepared.specs.Operands.{found_by}
use Rattle.pr_lanes.proofs.LaneLaws.{same_lanes}
use Rattle.pr_stripe_prepared.proofs.TableLaws.{found_even}
use Rattle.pr_stripe_prepared.proofs.results.look_up_even.Goals as goal

pub returns : goal.returns
returns c =
    let t = c.args.table.now in
    let a = c.args.a in
    let b = c.args.b in
    let first = c.turned in
    let second = c.turned-2 in
    same_lanes 16 second.result _ (found_by t a b) second.ensures.lanes (λ k l.
    let x = subst (λ (xs : List ℕ). get_or xs k 0 < 256) c.row_of-constant.ensures.is (first.ensures.bytes k l).0 in
    let f = subst (λ (xs : List ℕ). get_or xs k 0 < 256) c.row_of-by_a.ensures.is (first.ensures.bytes k l).2 in
    let g = subst (λ (xs : List ℕ). get_or xs k 0 < 256) c.row_of-by_b.ensures.is (second.ensures.bytes k l).2 in
    ap (λ y. bit_xor y (bit_and (get_or b k 0) (get_or c.row_of-by_b.result k 0)))
    (first.ensures.lanes.each k l
    ∙ ap (λ xs. bit_xor (get_or xs k 0) (bit_and (get_or a k 0) (get_or c.row_of-by_a.result k 0))) c.row_of-constant.ensures.is
    ∙ ap (λ xs. bit_xor (get_or t.t1 k 0) (bit_and (get_or a k 0) (get_or xs k 0))) c.row_of-by_a.ensures.is)
    ∙ ap (λ xs. bit_xor (bit_xor (get_or t.t1 k 0) (bit_and (get_or a k 0) (get_or t.by_a k 0))) (bit_and (get_or b k 0) (get_or xs k 0))) c.row_of-by_b.ensures.is
    ∙ sym (found_even (get_or t.t1 k 0) (get_or t.t2 k 0) (get_or t.t4 k 0) (get_or t.t8 k 0) (get_or t.by_a k 0) (get_or t.by_b k 0) (get_or a k 0) (get_or b k 0)
    x f g (first.ensures.bytes k l).1 (second.ensures.bytes k l).1 (t.turned_by_a k l) (t.turned_by_b k l) (t.turned_by_both c.requires.even k l)))
