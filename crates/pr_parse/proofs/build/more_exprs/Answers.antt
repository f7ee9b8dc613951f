use Rattle.pr_lang.specs.Shape.{expr_shape}
use Rattle.pr_parse.proofs.Lists.{comma_listed-more}
use Rattle.pr_parse.proofs.build.more_exprs.Goals as goal

pub returns-clause-ok : goal.returns-clause-ok
returns-clause-ok c = comma_listed-more expr_shape c.args.list.items _ c.args.expr c.requires c.in_ok-push.ensures.items
