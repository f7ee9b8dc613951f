use Rattle.std.proofs.Common.{length, arith, refl}
use Rattle.std.specs.List.{flat_map}
use Rattle.pr_code.specs.Spelling.{set_words, has_pe_bytes}
use Rattle.pr_code.proofs.WritingLemmas.{part_more, parts_done, marks_more, marks_fit, all_less}
use Rattle.pr_code.proofs.encoding.put_set.Goals as goal

pub loop-i-preserved : goal.loop-i-preserved
loop-i-preserved c = record {
  words = rw c.in_ok-set.ensures.words (part_more (flat_map set_words) _ c.loop-i.out.items _ c.args.pes.now c.loop-i.i _ _ c.loop-i-test.true refl refl c.loop-i.invariant.words);
  marks = marks_more c.args.pes.now c.loop-i.i _ c.in_ok-set.set c.from.result c.loop-i.marks _ c.loop-i-test.true c.requires.few c.in_ok-set.ensures.set c.from.ensures c.loop-i.invariant.marks;
  fits = marks_fit (length c.args.pes.now) c.loop-i.i c.in_ok-set.set c.from.result c.loop-i.marks c.loop-i-test.true c.requires.few c.from.ensures c.loop-i.invariant.fits;
  bytes = all_less has_pe_bytes c.args.pes.now c.loop-i.i _ _ c.loop-i-test.true c.in_ok-set.ensures.bytes c.loop-i.invariant.bytes;
}

pub returns-clause-words : goal.returns-clause-words
returns-clause-words c = parts_done (flat_map set_words) c.loop-i.out.items _ c.args.pes.now c.loop-i.i (omega arith) refl c.loop-i.invariant.words
