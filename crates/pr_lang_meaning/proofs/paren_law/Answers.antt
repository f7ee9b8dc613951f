use Rattle.pr_lang_meaning.proofs.EvenExpressions.{same-paren}
use Rattle.pr_lang_meaning.proofs.paren_law.Goals as goal

pub returns : goal.returns
returns c = same-paren
