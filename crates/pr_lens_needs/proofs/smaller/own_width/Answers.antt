use Rattle.pr_lens_needs.specs.Smaller.{Another}
use Rattle.pr_lens_needs.proofs.smaller.own_width.Goals as goal

pub returns-clause-none : goal.returns-clause-none
returns-clause-none c = Another c.in-Some.token c.in-Some.ensures.some (c.in_ok-takes_width.ensures.no c.if-branch.false)
