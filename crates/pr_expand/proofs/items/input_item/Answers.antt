use Rattle.pr_expand.proofs.items.input_item.Goals as goal

pub returns-clause-limit : goal.returns-clause-limit
returns-clause-limit c = c.named.ensures.limit _
