use Rattle.pr_tool_share.proofs.WordFacts.{return_cut, return_kept, return_none}
use Rattle.pr_tool_share.proofs.entries.without_return.Goals as goal

pub returns-in-Some : goal.returns-in-Some
returns-in-Some c = return_cut c.args.line.now c.in-Some.before.now c.in-Some.last.now c.in-Some.ensures.cases.0 c.if-last-eq13.true

pub returns-in_default : goal.returns-in_default
returns-in_default c = return_kept c.args.line.now c.in-Some.before.now c.in-Some.last.now c.in-Some.ensures.cases.0 c.if-last-eq13.false

pub returns-in_default-2 : goal.returns-in_default-2
returns-in_default-2 c = return_none c.split_last.result c.args.line.now c.in_default.is c.split_last.ensures.variant.1
