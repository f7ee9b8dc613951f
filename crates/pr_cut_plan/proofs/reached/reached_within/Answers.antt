use Rattle.std.proofs.Common.{arith, ◌∙◌}
use Rattle.pr_cut_plan.proofs.ReachedLemmas.{kept_marks}
use Rattle.pr_cut_plan.proofs.reached.reached_within.Goals as goal

pub returns-clause-flags : goal.returns-clause-flags
returns-clause-flags c = λ j l.
    (let count = c.in_ok-flags.ensures.len in
    let long = c.deref_mut.ensures.len in
    let same = c.mark_reached.auto.flags in
    kept_marks c.mark_reached.new.flags c.in_ok-flags.flags.items c.in_ok-flags.flags.len j (same ∙ long) (omega (arith, l, count)) ∙ c.mark_reached.ensures j (omega (arith, l, count, long)))
