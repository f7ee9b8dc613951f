-- A list of programs, and what refuses it or one of its programs.
use Rattle.std.specs.Prelude.{◌≡◌, ◌≢◌, ◌≤◌, ◌+◌, ◌⊎◌, ℕ, false, List, [], ◌∷◌, length, Option, Some, None, unwrap_or, slice_get, ⊤}
use Rattle.pr_base.specs.declared.caps.Cap.{Cap}
use Rattle.pr_edge.specs.Files.{Told}
use Rattle.pr_base.specs.declared.fabrics.Fabric.{Fabric}
use Rattle.pr_base.specs.Limits.{most_list_bytes}
use Rattle.pr_conf.specs.Shape.{Shape}
use Rattle.pr_tool_share.specs.Entries.{Entry, IsListed, IsBadAt}
use Rattle.pr_tool_answers.specs.declared.answers.Answer.{Answer}
use Rattle.pr_tool_answers.specs.declared.answers.Cause.{Cause}
use Rattle.pr_tool_modes.specs.declared.targets.Target.{Target}
use Rattle.pr_tool_modes.specs.Files.{IsText, IsFileRefusal, IsRefusedFile}
use Rattle.pr_tool_modes.specs.Sources.{ConfSource, Text, Gives, IsGood, IsSourceRefusal, IsRefusedSource}

-- ---- the list
-- a line of the list is not as it should be
abbrev pub IsBadList : List ℕ → Answer → Type 0
IsBadList text (Answer.BadList line) = IsBadAt text line
IsBadList text answer = ⊥

-- why no list was taken from a file
abbrev pub IsListRefusal : Told → List ℕ → ℕ → ℕ → Answer → Type 0
IsListRefusal told list before now answer = IsFileRefusal most_list_bytes Cap.ListBytes IsBadList told list before now answer

-- by the files alone
abbrev pub IsRefusedList : (List ℕ → Option (List ℕ)) → List ℕ → Answer → Type 0
IsRefusedList files list answer = IsRefusedFile most_list_bytes Cap.ListBytes IsBadList files list answer

-- the file lists these programs
pub record HasList (told : Told) (list : List ℕ) (entries : List Entry) : Type 0 where
  pub text : List ℕ
  pub file : IsText told list text
  pub short : length text ≤ most_list_bytes
  pub listed : IsListed text entries

-- ---- programs
-- the programs of a list are compiled for the base fabric, and not narrowed
abbrev pub base : Target
base = record { fabric = Fabric.Base; narrowed = false }

abbrev pub source_in : Entry → ConfSource
source_in entry = Text entry.program base

-- the answer where program k ends so, by the answer of a program alone; none where that tells of no single program
abbrev pub part_of : ℕ → Answer → Option Answer
part_of k (Answer.Syntax token) = Some (Answer.Part k (Cause.Syntax token))
part_of k (Answer.Scope rule item) = Some (Answer.Part k (Cause.Scope rule item))
part_of k (Answer.NoWidth equation) = Some (Answer.Part k (Cause.NoWidth equation))
part_of k (Answer.NoFit unit) = Some (Answer.Part k (Cause.NoFit unit))
part_of k (Answer.Limit which) = Some (Answer.Part k (Cause.Limit which))
part_of k (Answer.BadSample line) = Some (Answer.Part k (Cause.BadSample line))
part_of k answer = None

-- and that answer there
abbrev pub part_answer : ℕ → Answer → Answer
part_answer k answer = unwrap_or (part_of k answer) answer

-- program k is refused, and this is the answer
pub record IsPart (k : ℕ) (Refused : Answer → Type 0) (answer : Answer) : Type 0 where
  pub cause : Answer
  pub refused : Refused cause
  pub answers : answer ≡ part_answer k cause

-- of these programs, from number k on, one is refused and those before it are good
abbrev pub IsFirstRefused : (Entry → Type 0) → (Entry → Answer → Type 0) → ℕ → List Entry → Answer → Type 0
IsFirstRefused Good Refused k [] answer = ⊥
IsFirstRefused Good Refused k (entry ∷ entries) answer = IsPart k (Refused entry) answer ⊎ (Good entry × IsFirstRefused Good Refused (k + 1) entries answer)

-- by the shelf's count of faults before and after
abbrev pub IsProgramRefusal : Told → ℕ → ℕ → ℕ → List Entry → Answer → Type 0
IsProgramRefusal told before now k entries answer =
    IsFirstRefused (λ e. IsGood told (source_in e)) (λ e a. IsSourceRefusal told (source_in e) before now a) k entries answer

-- by the files alone
abbrev pub IsRefusedProgram : (List ℕ → Option (List ℕ)) → ℕ → List Entry → Answer → Type 0
IsRefusedProgram files k entries answer = IsFirstRefused (λ e. IsGood (Some files) (source_in e)) (λ e a. IsRefusedSource files (source_in e) a) k entries answer

-- the programs have these configurations
abbrev pub AreCompiled : Told → List Entry → List Shape → Type 0
AreCompiled told [] [] = ⊤
AreCompiled told [] (conf ∷ confs) = ⊥
AreCompiled told (entry ∷ entries) [] = ⊥
AreCompiled told (entry ∷ entries) (conf ∷ confs) = Gives told (source_in entry) 16 8 conf × AreCompiled told entries confs

-- ---- names
-- none of these programs is in the file of this name
abbrev pub IsNoProgram : List Entry → List ℕ → Type 0
IsNoProgram entries q = (i : ℕ) (entry : Entry) → slice_get entries i ≡ Some entry → q ≢ entry.program

-- nor are its samples
abbrev pub IsNoSamples : List Entry → List ℕ → Type 0
IsNoSamples entries q = (i : ℕ) (entry : Entry) → slice_get entries i ≡ Some entry → q ≢ entry.samples

-- at most one of these programs is in the file of this name
abbrev pub IsOneProgram : List Entry → List ℕ → Type 0
IsOneProgram entries q = (i k : ℕ) (a b : Entry) → slice_get entries i ≡ Some a → slice_get entries k ≡ Some b
    → q ≡ a.program → q ≡ b.program → i ≡ k

-- this is the file of a list or of one program of the list at most, and of no samples
pub record IsListedOnce (told : Told) (list q : List ℕ) : Type 0 where
  pub no_program : q ≡ list → (entries : List Entry) → HasList told list entries → IsNoProgram entries q
  pub one_program : (entries : List Entry) → HasList told list entries → IsOneProgram entries q
  pub no_samples : (entries : List Entry) → HasList told list entries → IsNoSamples entries q

-- this is neither the file of a list, nor one that the list names
pub record IsUnlisted (told : Told) (list q : List ℕ) : Type 0 where
  pub other : q ≢ list
  pub no_program : (entries : List Entry) → HasList told list entries → IsNoProgram entries q
  pub no_samples : (entries : List Entry) → HasList told list entries → IsNoSamples entries q
