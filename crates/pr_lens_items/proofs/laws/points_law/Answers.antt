use Rattle.pr_lens_items.proofs.CountLemmas.{lists-fixed, lists-expr}
use Rattle.pr_lens_items.proofs.laws.points_law.Goals as goal

pub returns : goal.returns
returns c = record { fixed = lists-fixed; expression = lists-expr }
