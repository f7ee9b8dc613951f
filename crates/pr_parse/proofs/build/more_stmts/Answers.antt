use Rattle.pr_lang.specs.Shape.{stmt_shape}
use Rattle.pr_parse.proofs.Lists.{listed-more}
use Rattle.pr_parse.proofs.build.more_stmts.Goals as goal

pub returns-clause-ok : goal.returns-clause-ok
returns-clause-ok c = listed-more stmt_shape c.args.stmts.items _ c.args.stmt c.in_ok-push.ensures.items
