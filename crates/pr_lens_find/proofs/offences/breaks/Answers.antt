use Rattle.std.proofs.Common.{inl}
use Rattle.pr_lens_find.specs.Fronts.{spot_of}
use Rattle.pr_lens_find.proofs.OffenceLemmas.{breach, no_breach}
use Rattle.pr_lens_find.proofs.offences.breaks.Goals as goal

pub returns-in-None-clause-no : goal.returns-in-None-clause-no
returns-in-None-clause-no c = λ _. inl (rw c.in-None.is at c.in_ok-cut_front.ensures.none)

pub returns-in_ok-seen-in-Some-clause-yes : goal.returns-in_ok-seen-in-Some-clause-yes
returns-in_ok-seen-in-Some-clause-yes c = λ true_is.
    let broken = c.args.broken.now in
    breach (spot_of broken.part) broken.rule c.args.cut c.in-Some.program c.in_ok-seen-in-Some.seen (rw c.in-Some.is at c.in_ok-cut_front.ensures.some) c.in_ok-seen-in-Some.ensures (c.is_breach.ensures.0 true_is)

pub returns-in_ok-seen-in-Some-clause-no : goal.returns-in_ok-seen-in-Some-clause-no
returns-in_ok-seen-in-Some-clause-no c = λ false_is.
    let broken = c.args.broken.now in
    no_breach (spot_of broken.part) broken.rule c.args.cut c.in-Some.program c.in_ok-seen-in-Some.seen (rw c.in-Some.is at c.in_ok-cut_front.ensures.some) c.in_ok-seen-in-Some.ensures c.is_breach.result c.is_breach.ensures false_is
