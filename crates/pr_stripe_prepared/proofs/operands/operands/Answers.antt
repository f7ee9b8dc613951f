use Rattle.std.proofs.Common.{◌≡◌, ℕ, ◌+◌, get_or, bit_or, ap, ◌∙◌, arith, if◌then◌else◌, sym}
use Rattle.pr_base.specs.Pe.{shifted}
use Rattle.pr_lanes.specs.Rows.{ones_where}
use Rattle.pr_stripe_prepared.specs.Gather.{gathered_byte}
use Rattle.pr_stripe_prepared.specs.Operands.{mark_of}
use Rattle.pr_lanes.proofs.LaneLaws.{same_lanes, splat_of}
use Rattle.pr_stripe_prepared.proofs.operands.operands.Goals as goal

same : (a b c d s : ℕ) → a ≡ c → b ≡ d → shifted a b s ≡ shifted c d s
same a b c d s e f = ap (λ x. shifted x b s) e ∙ ap (λ x. shifted c x s) f

pub returns-then-q-clause-b : goal.returns-then-q-clause-b
returns-then-q-clause-b g c = λ k s l shift few unshifted.
    c.shifted_row-b.ensures.bytes k s l (ap (λ ws. get_or ws k 0) c.words_of.ensures.is ∙ shift) few
    ∙ same _ _ _ _ s (c.high_half-hi.ensures.each k l ∙ c.gathered-both.ensures.each (16 + k) (omega arith)) (c.low_half.ensures.each k l ∙ c.gathered-rest.ensures.each k (omega arith))

pub returns-then-q-clause-c : goal.returns-then-q-clause-c
returns-then-q-clause-c g c =
    let q = c.args.q.now in
    let x = λ (k : ℕ). gathered_byte q.rest c.args.row.now c.args.state c.args.made (16 + k) in
    let put = λ (k : ℕ) (y : ℕ). if q.has_carry then bit_or y (ones_where (get_or c.args.carries k 0) (get_or q.c_carry k 0)) else y in
    same_lanes 16 c.mark.result _ (mark_of q c.args.row.now c.args.state c.args.made c.args.carries) c.mark.ensures (λ k l.
    ap (put k) (c.ones_in-bits.ensures.each k l
    ∙ ap (λ y. ones_where y (get_or c.row_of.result k 0)) (c.high_half.ensures.each k l ∙ c.gathered-rest.ensures.each (16 + k) (omega arith))
    ∙ ap (λ bs. ones_where (x k) (get_or bs k 0)) c.row_of.ensures.is
    ∙ sym (ap (λ b. if b then ones_where (x k) (get_or q.c_bits k 0) else 0) c.if-q.true)))

pub returns-else-q-clause-c : goal.returns-else-q-clause-c
returns-else-q-clause-c g c =
    let q = c.args.q.now in
    let x = λ (k : ℕ). gathered_byte q.rest c.args.row.now c.args.state c.args.made (16 + k) in
    let put = λ (k : ℕ) (y : ℕ). if q.has_carry then bit_or y (ones_where (get_or c.args.carries k 0) (get_or q.c_carry k 0)) else y in
    same_lanes 16 c.mark-else-q.result _ (mark_of q c.args.row.now c.args.state c.args.made c.args.carries) c.mark-else-q.ensures (λ k l.
    ap (put k) ((splat_of 16 0).each k l ∙ sym (ap (λ b. if b then ones_where (x k) (get_or q.c_bits k 0) else 0) c.if-q.false)))
