use Rattle.pr_lens_tool.specs.Orders.{asked_by}
use Rattle.pipelens.proofs.ReplyLemmas.{refused_line, refused_own, settled_line, settled_own}
use Rattle.pipelens.proofs.reply_to.Goals as goal

pub returns-in-Ok-clause-line : goal.returns-in-Ok-clause-line
returns-in-Ok-clause-line g c = settled_line (asked_by c.args.words.now) c.in-Ok.called.reply c.settle.result c.in-Ok.called.last c.settle.ensures c.in-Ok.ensures.line

pub returns-in-Ok-clause-own : goal.returns-in-Ok-clause-own
returns-in-Ok-clause-own g c = settled_own (asked_by c.args.words.now) c.in-Ok.called.reply c.settle.result c.in-Ok.called.last c.settle.ensures c.in-Ok.ensures.own

pub returns-in-Err-clause-line : goal.returns-in-Err-clause-line
returns-in-Err-clause-line g c = refused_line (asked_by c.args.words.now) c.in-Err.outcome c.plain.result c.in-Err.ensures.refused c.plain.ensures

pub returns-in-Err-clause-own : goal.returns-in-Err-clause-own
returns-in-Err-clause-own g c = refused_own (asked_by c.args.words.now) c.in-Err.outcome c.plain.result c.in-Err.ensures.refused c.plain.ensures
