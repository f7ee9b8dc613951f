use Rattle.std.proofs.Common.{◌∙◌, length, sym, ap, arith}
use Rattle.pr_lens_extents.specs.declared.verdicts.Verdict.TheVariants.{Unseen}
use Rattle.pr_lens_warn.proofs.WarningLemmas.{length_more, verdict_judged, verdict_passed}
use Rattle.pr_lens_warn.proofs.comparisons.by_tokens.Goals as goal
use Rattle.pr_lens_warn.proofs.comparisons.by_tokens.Goals.{then-is_judged+in_ok-push, else-is_judged+in_ok-push-2}

pub loop-at-preserved : goal.loop-at-preserved
loop-at-preserved c =
    let tokens = c.args.source.now.tokens.now in
    let verdicts = c.args.verdicts.now in
    let at = c.loop-at in
    elim c.if-is_judged.branch [
      | then-is_judged+in_ok-push w ↦ (
          let more = ap (λ v. v.items) w.all-is ∙ w.in_ok-push.ensures.items in
          let judged = sym c.is_judged.ensures ∙ w.if-is_judged.true in
          record {
            few = omega (arith, at.invariant.few, w.next-is);
            count = ap length more ∙ length_more at.all.items w.verdict_at.result at.at at.invariant.count;
            rest = rw (more, w.next-is) (verdict_judged tokens verdicts at.all.items _ at.at at.next w.verdict_at.result c.loop-at-test.true judged w.verdict_at.ensures at.invariant.rest);
          })
      | else-is_judged+in_ok-push-2 w ↦ (
          let more = ap (λ v. v.items) w.all-is ∙ w.in_ok-push-2.ensures.items in
          let judged = sym c.is_judged.ensures ∙ w.if-is_judged.false in
          record {
            few = omega (arith, at.invariant.few, w.next-is);
            count = ap length more ∙ length_more at.all.items Unseen at.at at.invariant.count;
            rest = rw (more, w.next-is) (verdict_passed tokens verdicts at.all.items _ at.at at.next c.loop-at-test.true judged at.invariant.rest);
          })
    ]
