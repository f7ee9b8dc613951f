use Rattle.std.proofs.Common.{Option, subst}
use Rattle.pr_lens_tool.specs.Asked.{Asked}
use Rattle.pr_lens_tool.specs.Replies.{HasLine, HasOwnLine}
use Rattle.pipelens.proofs.ReplyLemmas.{asked_is, bare_line, bare_own}
use Rattle.pipelens.proofs.replied.Goals as goal

pub returns-in-Ok-clause-line : goal.returns-in-Ok-clause-line
returns-in-Ok-clause-line g c = subst (λ (a : Option Asked). HasLine a c.reply_to.result) (asked_is c.args.given c.in-Ok.words c.deref.result.now c.in-Ok.is c.deref.ensures.value) c.reply_to.ensures.line

pub returns-in-Ok-clause-own : goal.returns-in-Ok-clause-own
returns-in-Ok-clause-own g c = subst (λ (a : Option Asked). HasOwnLine a c.reply_to.result) (asked_is c.args.given c.in-Ok.words c.deref.result.now c.in-Ok.is c.deref.ensures.value) c.reply_to.ensures.own

pub returns-in-Err-clause-line : goal.returns-in-Err-clause-line
returns-in-Err-clause-line g c = bare_line c.args.given c.in-Err.fault c.refusal_of.result c.plain.result c.in-Err.is c.plain.ensures

pub returns-in-Err-clause-own : goal.returns-in-Err-clause-own
returns-in-Err-clause-own g c = bare_own c.args.given c.in-Err.fault c.refusal_of.result c.plain.result c.in-Err.is c.plain.ensures
