-- How the process ends.
use Rattle.std.specs.Prelude.{◌≡◌, ℕ, Option, None, Ok, Err, IfErr}
use Rattle.pr_edge.specs.Tape.{Tape}
use Rattle.pr_system.specs.declared.words.WordsFault.{WordsFault}
use Rattle.pr_system.specs.Words.{Given}
use Rattle.pr_tool.specs.Noted.{GainsNote}
use Rattle.pr_tool_answers.specs.declared.answers.Answer.{Answer}
use Rattle.pr_lens_tool.specs.declared.outcomes.Outcome.{Outcome}
use Rattle.pr_lens_tool.specs.declared.outcomes.Outcome.TheVariants.{Plain, Usage}
use Rattle.pr_lens_tool.specs.declared.outcomes.Reply.{Reply}
use Rattle.pr_lens_tool.specs.Asked.{Asked}
use Rattle.pr_lens_tool.specs.Orders.{asked_by}
use Rattle.pr_lens_tool.specs.Outcomes.{line_of, status_of}
use Rattle.pr_lens_tool.specs.Replies.{HasLine, HasOwnLine}
use Rattle.pipelens.specs.Settled.{plain_reply}

-- what words ask for, if they can be had and are lawful
abbrev pub asked_in : Given → Option Asked
asked_in (Ok words) = asked_by words.items
asked_in (Err fault) = None

-- what a call comes to where they cannot be had
abbrev pub refusal_of : WordsFault → Outcome
refusal_of WordsFault.NoText = Usage
refusal_of WordsFault.Memory = Plain Answer.Memory

-- the status of a reply to words of which the line was told, up to a write that fails
pub record IsEnded (old new : Tape) (before now status : ℕ) : Type 0 where
  pub given : Given
  pub reply : Reply
  pub status_is : status ≡ status_of reply.outcome
  pub refused : IfErr given (λ fault. reply ≡ plain_reply (refusal_of fault))
  pub line : HasLine (asked_in given) reply
  pub own : HasOwnLine (asked_in given) reply
  pub note : GainsNote old new before now (line_of reply)
