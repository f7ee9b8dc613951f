use Rattle.std.proofs.Common.{◌<◌, ◌≢◌, length, get_or, bit_xor, get_or-set_same, get_or-set_other, below_more, sym, ◌∙◌, arith}
use Rattle.std.proofs.lemmas.List.{length-set}
use Rattle.pr_stripe_prepared.proofs.TableLaws.{xor_again}
use Rattle.pr_stripe_prepared.proofs.elements.between.Goals as goal

pub loop-k-preserved : goal.loop-k-preserved
loop-k-preserved c =
    let l = c.loop-k in
    let one = c.args.one.now in
    let other = c.args.other.now in
    let v = bit_xor (get_or one l.k 0) (get_or other l.k 0) in
    let low : l.k < length l.row = omega arith in
    record {
      long = length-set l.row l.k v ∙ l.invariant.long;
      each = below_more _ _
          (λ j h. let ne : j ≢ l.k = omega arith in rw get_or-set_other (l.invariant.each j h))
          (rw get_or-set_same (sym (xor_again (get_or one l.k 0) (get_or other l.k 0) (c.type_inv.one l.k).fits (c.type_inv.other l.k).fits)));
    }
