use Rattle.std.proofs.Common.{◌<◌, arith, get_or, sym}
use Rattle.std.proofs.Math.Facts.{Fits-of_lt}
use Rattle.pr_base.proofs.BytesLemmas.{number_of-take_more}
use Rattle.pr_samples.proofs.ResultLemmas.{moved_short}
use Rattle.pr_samples.proofs.results.short_number.Goals as goal

pub loop-i-preserved : goal.loop-i-preserved
loop-i-preserved c =
    let i = c.loop-i.i in
    let byte : get_or c.args.bytes.now i 0 < 256 = (c.type_inv.bytes i).fits in
    let s = moved_short c.loop-i.n i (get_or c.args.bytes.now i 0) (omega arith) byte c.loop-i.invariant.small in
    rw (c.from.ensures, s.0) (record {
      so_far = rw c.loop-i.invariant.so_far (sym (number_of-take_more c.args.bytes.now i c.loop-i-test.true));
      small = s.1;
    })

pub overflow_add-n : goal.overflow_add-n
overflow_add-n c =
    let i = c.loop-i.i in
    let byte : get_or c.args.bytes.now i 0 < 256 = (c.type_inv.bytes i).fits in
    let s = moved_short c.loop-i.n i (get_or c.args.bytes.now i 0) (omega arith) byte c.loop-i.invariant.small in
    rw (c.from.ensures, s.0) (Fits-of_lt s.2)
