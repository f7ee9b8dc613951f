use Rattle.std.proofs.lemmas.Result.{IfOk-weaker}
use Rattle.pr_lens_find.proofs.TurnLemmas.{item_of_some}
use Rattle.pr_lens_find.proofs.equations.equations_item.Goals as goal

pub returns : goal.returns
returns c = IfOk-weaker c.item_with.result _ _ (λ item is. item_of_some _ _ _ item is) c.item_with.ensures
