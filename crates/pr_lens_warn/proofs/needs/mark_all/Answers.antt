use Rattle.pr_lens_warn.proofs.needs.mark_all.Goals as goal

pub returns-clause-settled : goal.returns-clause-settled
returns-clause-settled c = c.loop-more.invariant.settled c.loop-more-test.false
