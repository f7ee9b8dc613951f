use Rattle.pr_lens_items.proofs.WholeLemmas.{whole-fixed, whole-expr}
use Rattle.pr_lens_items.proofs.laws.whole_law.Goals as goal

pub returns : goal.returns
returns c = record { fixed = whole-fixed; expression = whole-expr }
