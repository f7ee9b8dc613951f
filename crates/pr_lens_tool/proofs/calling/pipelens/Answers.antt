use Rattle.std.proofs.Common.{Option, refl, subst}
use Rattle.pr_lens_tool.specs.Asked.{Asked}
use Rattle.pr_lens_tool.specs.Files.{IsOnce, IsOther}
use Rattle.pr_lens_tool.specs.Outcomes.{help_text}
use Rattle.pr_lens_tool.proofs.CallLemmas.{called_followed, called_help, has_line, has_own, has_own_memory, has_own_unasked}
use Rattle.pr_lens_tool.proofs.calling.pipelens.Goals as goal

pub returns-in-Ok-clause-called : goal.returns-in-Ok-clause-called
returns-in-Ok-clause-called g c = called_followed _ _ _ _ c.in-Ok.ensures.order (rw c.reply_of.ensures.outcome c.follow-outcome.ensures.followed)

pub returns-in-Ok-clause-line : goal.returns-in-Ok-clause-line
returns-in-Ok-clause-line g c = has_line _ _ c.reply_of.result _ c.in-Ok.ensures.order c.reply_of.ensures.outcome c.reply_of.ensures.line

pub returns-in-Err-Help-clause-called : goal.returns-in-Err-Help-clause-called
unfolding help_text
returns-in-Err-Help-clause-called g c =
    called_help _ _ _ (c.in-Err-Help.ensures.help (rw c.in-Err-Help.field-0-is refl)) (c.in-Err-Help.ensures.asks (rw c.in-Err-Help.field-0-is refl))
    (rw c.bare.ensures.outcome c.written.ensures.written)

pub returns-in-Ok-clause-shown : goal.returns-in-Ok-clause-shown
returns-in-Ok-clause-shown g c = rw c.reply_of.ensures.outcome c.follow-outcome.ensures.shown

pub returns-in-Ok-clause-own : goal.returns-in-Ok-clause-own
returns-in-Ok-clause-own g c = has_own _ _ c.reply_of.result c.in-Ok.ensures.order c.reply_of.ensures.bounds

pub returns-in-Err-Help-clause-own : goal.returns-in-Err-Help-clause-own
returns-in-Err-Help-clause-own g c = has_own_unasked _ c.bare.result (c.in-Err-Help.ensures.help (rw c.in-Err-Help.field-0-is refl)) c.bare.ensures.bounds

pub returns-in-Ok-clause-once : goal.returns-in-Ok-clause-once
returns-in-Ok-clause-once g c = λ q once. c.follow-outcome.ensures.once q (subst (λ (o : Option Asked). IsOnce o q) c.in-Ok.ensures.order once)

pub returns-in-Ok-clause-other_files : goal.returns-in-Ok-clause-other_files
returns-in-Ok-clause-other_files g c = λ q other. c.follow-outcome.ensures.others q (subst (λ (o : Option Asked). IsOther o q) c.in-Ok.ensures.order other)
