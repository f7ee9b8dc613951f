-- How the process ends.
use Rattle.std.specs.Prelude.{◌≡◌, ◌⊎◌, ℕ, None, Ok, Err, IfErr}
use Rattle.pr_edge.specs.Tape.{Tape}
use Rattle.pr_system.specs.declared.words.WordsFault.{WordsFault}
use Rattle.pr_system.specs.Words.{Given}
use Rattle.pr_tool.specs.Noted.{GainsNote}
use Rattle.pr_tool.specs.Notes.{note_of}
use Rattle.pr_tool.specs.Words.{Asked, asked_by, bounds_in}
use Rattle.pr_tool_answers.specs.declared.answers.Answer.{Answer}
use Rattle.pr_tool_answers.specs.Statuses.{status_of}

-- what words ask for, if they can be had and are lawful
abbrev pub asked_in : Given → Asked
asked_in (Ok words) = asked_by words.items
asked_in (Err fault) = None

-- the answer to those that cannot be had
abbrev pub refusal_of : WordsFault → Answer
refusal_of WordsFault.NoText = Answer.Usage
refusal_of WordsFault.Memory = Answer.Memory

-- the status of an answer to words of which the note gained the line, up to a write that fails
pub record IsEnded (old new : Tape) (before now status : ℕ) : Type 0 where
  pub given : Given
  pub answer : Answer
  pub status_is : status ≡ status_of answer
  pub refused : IfErr given (λ fault. answer ≡ refusal_of fault)
  pub usage : answer ≡ Answer.Usage → asked_in given ≡ None
  pub wrong : asked_in given ≡ None → (answer ≡ Answer.Usage) ⊎ ((answer ≡ Answer.Memory) ⊎ (answer ≡ Answer.WriteFault))
  pub note : GainsNote old new before now (note_of (bounds_in (asked_in given)) answer)
