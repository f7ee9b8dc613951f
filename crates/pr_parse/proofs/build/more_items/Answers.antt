use Rattle.pr_lang.specs.Shape.{item_shape}
use Rattle.pr_parse.proofs.Lists.{listed-more}
use Rattle.pr_parse.proofs.build.more_items.Goals as goal

pub returns-clause-ok : goal.returns-clause-ok
returns-clause-ok c = listed-more item_shape c.args.items.items _ c.args.item c.in_ok-push.ensures.items
