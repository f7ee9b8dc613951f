-- How the samples of programs end, and what that comes to.
use Rattle.std.specs.Prelude.{◌≡◌, ◌+◌, ◌^◌, ◌⊎◌, ℕ, Bool, true, false, List, [], ◌∷◌, Option, Some, unwrap_or, if◌then◌else◌}
use Rattle.std.specs.List.{list_any}
use Rattle.pr_conf.specs.Shape.{Shape}
use Rattle.pr_tool_share.specs.Entries.{Entry}
use Rattle.pr_tool_answers.specs.declared.answers.Answer.{Answer}
use Rattle.pr_tool_modes.specs.Samples.{samples_verdict}
use Rattle.pr_tool_share.specs.Lists.{part_of, HasList, IsRefusedList, IsRefusedProgram, AreCompiled}

-- a read failed
abbrev pub is_read_fault : Answer → Bool
is_read_fault Answer.ReadFault = true
is_read_fault answer = false

-- the part of program k where its answer tells of one program alone, whatever the cause; or else this
abbrev pub part_or : ℕ → Answer → Answer → Answer
part_or k answer other = unwrap_or (part_of k answer) other

-- the part of the first program from number k on that has one, and Ok where none has
abbrev pub first_part : ℕ → List Answer → Answer
first_part k [] = Answer.Ok
first_part k (answer ∷ answers) = part_or k answer (first_part (k + 1) answers)

-- by how the samples of each program ended
abbrev pub answer_of_all : List Answer → Answer
answer_of_all answers = if list_any is_read_fault answers then Answer.ReadFault else first_part 0 answers

-- how the samples of each program are to end
abbrev pub samples_ends : (List ℕ → Option (List ℕ)) → List Entry → List Shape → List Answer
samples_ends files [] confs = []
samples_ends files (entry ∷ entries) [] = []
samples_ends files (entry ∷ entries) (conf ∷ confs) = samples_verdict (2 ^ 40) conf.inputs (files entry.samples) ∷ samples_ends files entries confs

-- ---- the verdict
-- no program is refused, and the samples decide
pub record AreLastVerdict (files : List ℕ → Option (List ℕ)) (entries : List Entry) (answer : Answer) : Type 0 where
  pub confs : List Shape
  pub compiled : AreCompiled (Some files) entries confs
  pub last : answer ≡ answer_of_all (samples_ends files entries confs)

-- the list is taken; a program is refused, or the samples decide
pub record IsListVerdict (files : List ℕ → Option (List ℕ)) (list : List ℕ) (answer : Answer) : Type 0 where
  pub entries : List Entry
  pub has : HasList (Some files) list entries
  pub next : IsRefusedProgram files 0 entries answer ⊎ AreLastVerdict files entries answer

abbrev pub IsShareVerdict : (List ℕ → Option (List ℕ)) → List ℕ → Answer → Type 0
IsShareVerdict files list answer = IsRefusedList files list answer ⊎ IsListVerdict files list answer
