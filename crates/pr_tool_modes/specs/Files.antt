-- Files that are read whole.
use Rattle.std.specs.Prelude.{◌≡◌, ◌<◌, ◌≤◌, ◌⊎◌, ℕ, List, length, Some, None, ⊤, Option, IsSome}
use Rattle.pr_base.specs.declared.caps.Cap.{Cap}
use Rattle.pr_edge.specs.Files.{Told, HasReadCause}
use Rattle.pr_tool_answers.specs.declared.answers.Answer.{Answer}

-- the file has this text, where the files are told
abbrev pub IsText : Told → List ℕ → List ℕ → Type 0
IsText None name text = ⊤
IsText (Some files) name text = files name ≡ Some text

-- no failed read is kept quiet: the answer is a read fault, or the shelf's count of faults is as it was
abbrev pub ShowsFault : ℕ → ℕ → Answer → Type 0
ShowsFault before now answer = (answer ≡ Answer.ReadFault) ⊎ (now ≡ before)

-- a file of which nothing was read before was read in order, and no byte of it twice
abbrev pub IsInOrder : Option ℕ → Option ℕ → Type 0
IsInOrder before now = before ≡ Some 0 → IsSome now

-- the file has more bytes than the limit
pub record IsLong (told : Told) (name : List ℕ) (limit : ℕ) : Type 0 where
  pub text : List ℕ
  pub file : IsText told name text
  pub long : limit < length text

-- the file has no more bytes than the limit, and its text is refused so, for one of these reasons
pub record HasRefused (limit : ℕ) (reasons : List ℕ → Answer → Type 0) (told : Told) (name : List ℕ) (answer : Answer) : Type 0 where
  pub text : List ℕ
  pub file : IsText told name text
  pub short : length text ≤ limit
  pub refused : reasons text answer

-- why a file was not read whole, by the shelf's count of faults before and after
abbrev pub IsUnread : ℕ → Cap → Told → List ℕ → ℕ → ℕ → Answer → Type 0
IsUnread limit cap told name before now answer =
    ((answer ≡ Answer.Limit cap) × IsLong told name limit)
    ⊎ (((answer ≡ Answer.ReadFault) × HasReadCause told name before now)
    ⊎ (answer ≡ Answer.Memory))

-- why nothing came of a file: it was not read whole, or its text is refused
abbrev pub IsFileRefusal : ℕ → Cap → (List ℕ → Answer → Type 0) → Told → List ℕ → ℕ → ℕ → Answer → Type 0
IsFileRefusal limit cap reasons told name before now answer =
    IsUnread limit cap told name before now answer ⊎ HasRefused limit reasons told name answer

-- ---- the verdict
-- by the files alone: the file is not there, is too long, or its text is refused
abbrev pub IsRefusedFile : ℕ → Cap → (List ℕ → Answer → Type 0) → (List ℕ → Option (List ℕ)) → List ℕ → Answer → Type 0
IsRefusedFile limit cap reasons files name answer =
    ((answer ≡ Answer.ReadFault) × (files name ≡ None))
    ⊎ (((answer ≡ Answer.Limit cap) × IsLong (Some files) name limit)
    ⊎ HasRefused limit reasons (Some files) name answer)
