use Rattle.std.proofs.Common.{arith}
use Rattle.pr_lens_find.specs.Fronts.{spot_of}
use Rattle.pr_lens_find.proofs.OffenceLemmas.{both_ok, first_framed}
use Rattle.pr_lens_find.proofs.offences.first_frame.Goals as goal

pub returns : goal.returns
returns c =
    let broken = c.args.broken.now in
    both_ok _ _ _ c.turn_above.result (λ o some none. first_framed (spot_of broken.part) broken.rule c.args.most (c.in_ok-ask.ensures.when_no c.if-branch.false) o some none) c.turn_above.ensures.some c.turn_above.ensures.none

pub returns-then-branch : goal.returns-then-branch
returns-then-branch c = record {
  some = omega arith;
  breaks = c.in_ok-ask.ensures.when_yes c.if-branch.true;
  keeps = λ more. absurd (omega (arith, more));
}
