use Rattle.pr_lens_find.proofs.TurnLemmas.{item_of_turn, item_of_none}
use Rattle.pr_lens_find.proofs.halves.item_with.Goals as goal

pub returns-in-Some : goal.returns-in-Some
returns-in-Some g c =
    rw c.saturating_sub.ensures (item_of_turn _ _ c.args.items c.in-Some.count (rw c.in-Some.is at c.in_ok-turn_above.ensures.some))

pub returns-in-None : goal.returns-in-None
returns-in-None g c = item_of_none _ _ c.args.items (rw c.in-None.is at c.in_ok-turn_above.ensures.none)
