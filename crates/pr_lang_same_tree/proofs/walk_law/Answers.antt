use Rattle.pr_lang_same_tree.proofs.Walks.{same-offence, same-inputs}
use Rattle.pr_lang_same_tree.proofs.walk_law.Goals as goal

pub returns : goal.returns
returns c = record { offence = same-offence; inputs = same-inputs }
