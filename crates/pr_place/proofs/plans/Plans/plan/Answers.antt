use Rattle.pr_place.proofs.ListLemmas.{taken_at}
use Rattle.pr_place.proofs.plans.Plans.plan.Goals as goal

pub returns-clause-needs : goal.returns-clause-needs
returns-clause-needs c = taken_at c.args.self.now.cells.starts.items c.args.self.now.needs.items c.deref.result.now c.args.group c.index-from.result.now c.index-to.result.now c.index-from.ensures c.index-to.ensures c.deref.ensures.value c.requires
