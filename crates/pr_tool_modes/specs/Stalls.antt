-- Stall texts that are read from files.
use Rattle.std.specs.Prelude.{◌≡◌, ◌≤◌, ◌⊎◌, ℕ, not, nat_lt, List, [], length, map, position, Option, Some, None, IsSomeAnd, if◌then◌else◌}
use Rattle.pr_base.specs.declared.caps.Cap.{Cap}
use Rattle.pr_base.specs.Limits.{most_stall_bytes}
use Rattle.pr_edge.specs.Files.{Told}
use Rattle.pr_samples.specs.Stall.{is_stall_byte, turns_of}
use Rattle.pr_run_script.specs.Script.{Held}
use Rattle.pr_run.specs.Setting.{held_of}
use Rattle.pr_tool_answers.specs.declared.answers.Answer.{Answer}
use Rattle.pr_tool_modes.specs.Files.{IsText, IsUnread}

-- the text of a stall file, where there is one, and else no text
abbrev pub IsStallText : Told → Option (List ℕ) → List ℕ → Type 0
IsStallText told None text = text ≡ []
IsStallText told (Some name) text = IsText told name text

-- the place of the first byte that a stall text may not have
abbrev pub first_bad : List ℕ → Option ℕ
first_bad text = position (λ b. not (is_stall_byte b)) text

-- there is a stall text, and its turns are these
pub record HasStall (told : Told) (name : Option (List ℕ)) (turns : List Held) : Type 0 where
  pub text : List ℕ
  pub file : IsStallText told name text
  pub short : length text ≤ most_stall_bytes
  pub good : first_bad text ≡ None
  pub are : turns ≡ map held_of (turns_of text)

-- it has a byte that it may not have, and none before
pub record HasBadStall (told : Told) (name : Option (List ℕ)) (answer : Answer) : Type 0 where
  pub text : List ℕ
  pub file : IsStallText told name text
  pub short : length text ≤ most_stall_bytes
  pub place : ℕ
  pub bad : first_bad text ≡ Some place
  pub answers : answer ≡ Answer.BadStall place

-- why there is none
abbrev pub IsStallRefusal : Told → Option (List ℕ) → ℕ → ℕ → Answer → Type 0
IsStallRefusal told name before now answer = IsSomeAnd name (λ n. IsUnread most_stall_bytes Cap.StallBytes told n before now answer) ⊎ HasBadStall told name answer

-- ---- the verdict
-- a byte is bad, or the next points decide
abbrev pub bad_or : Option ℕ → Answer → Answer
bad_or None next = next
bad_or (Some place) next = Answer.BadStall place

-- a stall file that has these bytes, if it is there, and then the next points
abbrev pub after_text : Option (List ℕ) → Answer → Answer
after_text None next = Answer.ReadFault
after_text (Some text) next = if nat_lt most_stall_bytes (length text) then Answer.Limit Cap.StallBytes else bad_or (first_bad text) next

-- the same of a stall file of this name, where there is one
abbrev pub after_stall : (List ℕ → Option (List ℕ)) → Option (List ℕ) → Answer → Answer
after_stall files None next = next
after_stall files (Some name) next = after_text (files name) next
