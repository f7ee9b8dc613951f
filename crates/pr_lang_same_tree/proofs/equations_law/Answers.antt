use Rattle.pr_lang_same_tree.proofs.Makings.{same-equations}
use Rattle.pr_lang_same_tree.proofs.equations_law.Goals as goal

pub returns : goal.returns
returns c = same-equations
