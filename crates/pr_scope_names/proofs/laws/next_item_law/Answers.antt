use Rattle.pr_scope_names.proofs.Seen.{next_adds, next_keeps}
use Rattle.pr_scope_names.proofs.laws.next_item_law.Goals as goal

pub returns-clause-keeps : goal.returns-clause-keeps
returns-clause-keeps c = next_keeps

pub returns-clause-adds : goal.returns-clause-adds
returns-clause-adds c = next_adds
