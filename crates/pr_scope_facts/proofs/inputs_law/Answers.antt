use Rattle.pr_scope_facts.proofs.Inputs.{inputs-of-equations}
use Rattle.pr_scope_facts.proofs.InvertedItems.{inputs-scoped}
use Rattle.pr_scope_facts.proofs.inputs_law.Goals as goal

pub returns : goal.returns
returns c = record { scoped = inputs-scoped; equations = inputs-of-equations }
