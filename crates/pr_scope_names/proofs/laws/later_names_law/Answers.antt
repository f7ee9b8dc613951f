use Rattle.pr_scope_names.proofs.Seen.{later_name}
use Rattle.pr_scope_names.proofs.laws.later_names_law.Goals as goal

pub returns : goal.returns
returns c = later_name
