use Rattle.std.proofs.Common.{◌∙◌, length, sym, ap}
use Rattle.pr_lens_warn.specs.Warnings.{warning_at}
use Rattle.pr_lens_warn.proofs.WarningLemmas.{none_of, rest_found, rest_passed}
use Rattle.pr_lens_warn.proofs.warnings.warnings_by.Goals as goal
use Rattle.pr_lens_warn.proofs.warnings.warnings_by.Goals.{in-Some+in_ok-push, in_default}

pub loop-at-preserved : goal.loop-at-preserved
loop-at-preserved c =
    let source = c.args.source.now in
    let h = warning_at source.text.now source.tokens.now source.spans.now c.args.needed.now c.args.verdicts.now c.args.tails.now in
    let n = length c.args.needed.now in
    let at = c.loop-at in
    elim c.match-warning_at.branch [
      | in-Some+in_ok-push w ↦ (
          let more = ap (λ v. v.items) w.found-is ∙ w.in_ok-push.ensures.items in
          rw more (rest_found h n at.found.items _ at.at w.in-Some.warning c.loop-at-test.true (sym c.warning_at.ensures ∙ w.in-Some.is) at.invariant))
      | in_default w ↦ (
          let none = sym c.warning_at.ensures ∙ none_of c.warning_at.result w.in_default.not-Some in
          rw (w.found-is) (rest_passed h n at.found.items _ at.at c.loop-at-test.true none at.invariant))
    ]
