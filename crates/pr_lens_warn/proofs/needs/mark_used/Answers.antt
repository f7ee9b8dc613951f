use Rattle.std.proofs.Common.{◌-◌, ◌<◌, length, length-set, true, arith}
use Rattle.std.proofs.lemmas.Bool.{true≢false}
use Rattle.pr_lens_warn.proofs.NeedLemmas.{marked_fewer, marked_kept, settled_more, sound_more}
use Rattle.pr_lens_warn.proofs.needs.mark_used.Goals as goal

pub loop-at-preserved-then-is_new : goal.loop-at-preserved-then-is_new
loop-at-preserved-then-is_new c =
    let source = c.args.source.now in
    let marks = c.loop-at.marks in
    let held = c.loop-at.invariant in
    let less : c.loop-at.at - 1 < length marks = omega (arith, held.within, c.loop-at-test.true) in
    let fewer = marked_fewer marks (c.loop-at.at - 1) less (c.is_new.ensures.unmarked c.if-is_new.true) in
    let long = length-set marks (c.loop-at.at - 1) true in
    record {
      within = omega (arith, less, long);
      long = omega (arith, long, held.long);
      sound = sound_more source.text.now source.tokens.now source.spans.now marks (c.loop-at.at - 1) less held.sound (c.is_new.ensures.assigned c.if-is_new.true) (c.is_new.ensures.used c.if-is_new.true);
      kept = λ k h. marked_kept marks (c.loop-at.at - 1) k less (held.kept k h);
      fewer = omega (arith, fewer, held.fewer);
      settled = λ no. absurd (true≢false no);
    }

pub loop-at-preserved : goal.loop-at-preserved
loop-at-preserved c =
    let source = c.args.source.now in
    let held = c.loop-at.invariant in
    record {
      within = omega (arith, held.within);
      long = held.long;
      sound = held.sound;
      kept = held.kept;
      fewer = held.fewer;
      settled = λ no. settled_more source.text.now source.tokens.now source.spans.now c.loop-at.marks (c.loop-at.at - 1) c.loop-at.at (omega (arith, c.loop-at-test.true)) (held.settled no) (c.is_new.ensures.settled c.if-is_new.false);
    }

pub returns-clause-settled : goal.returns-clause-settled
returns-clause-settled c = λ no k low high. c.loop-at.invariant.settled no k (omega (arith, c.loop-at-test.false)) high
