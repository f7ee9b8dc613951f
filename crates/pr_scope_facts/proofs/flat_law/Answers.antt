use Rattle.pr_scope_facts.proofs.FlatLaw.{program-flat}
use Rattle.pr_scope_facts.proofs.flat_law.Goals as goal

pub returns : goal.returns
returns c = program-flat
