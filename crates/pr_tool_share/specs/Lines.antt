-- What the programs of a list have written.
use Rattle.std.specs.Prelude.{◌≡◌, ◌⊎◌, ℕ, Bool, false, List, All, [], ◌∷◌, length, take, Option, Some, unwrap_or, slice_get, ⊤}
use Rattle.std.specs.List.{count_by}
use Rattle.pr_base.specs.declared.caps.Cap.{Cap}
use Rattle.pr_base.specs.Rows.{written}
use Rattle.pr_edge.specs.Count.{RoseBy, IsSteady}
use Rattle.pr_edge.specs.Tape.{Appends, AppendsFront}
use Rattle.pr_lang.specs.declared.trees.Program.{Program}
use Rattle.pr_lang_meaning.specs.Programs.{out}
use Rattle.pr_tool_share.specs.Entries.{Entry}
use Rattle.pr_share_text.specs.Text.{Part, share_text, lines_of_program}
use Rattle.pr_tool_answers.specs.declared.answers.Answer.{Answer}
use Rattle.pr_tool_answers.specs.declared.answers.Cause.{Cause}
use Rattle.pr_tool_modes.specs.Calls.{Call}
use Rattle.pr_tool_modes.specs.Programs.{inputs_of, HasProgram}
use Rattle.pr_tool_modes.specs.Samples.{fed_in}
use Rattle.pr_tool_share.specs.Lists.{HasList, IsListRefusal, IsProgramRefusal}

-- the samples of a program; a file that is not there has none
abbrev pub samples_of : (List ℕ → Option (List ℕ)) → Entry → Program → List (List ℕ)
samples_of files entry program = (fed_in (inputs_of program) (unwrap_or (files entry.samples) [])).samples

-- the lines of a program in the text are those of what it means on its samples: on all of them, or, where a read of them failed,
-- on first ones
pub record IsPartOf (files : List ℕ → Option (List ℕ)) (entry : Entry) (failed : Bool) (part : Part) : Type 0 where
  pub program : Program
  pub widths : List ℕ
  pub has : HasProgram (Some files) entry.program program widths
  pub rows : List (List ℕ)
  pub first : rows ≡ take (length rows) (samples_of files entry program)
  pub all : failed ≡ false → rows ≡ samples_of files entry program
  pub is : part ≡ record { quota = entry.quota; rows = out program rows }

-- the same of all programs, in order
abbrev pub ArePartsOf : (List ℕ → Option (List ℕ)) → List Entry → List Bool → List Part → Type 0
ArePartsOf files [] [] [] = ⊤
ArePartsOf files (entry ∷ entries) (failed ∷ faults) (part ∷ parts) = IsPartOf files entry failed part × ArePartsOf files entries faults parts
ArePartsOf files entries faults parts = ⊥

-- the text of their turns is put; at most as many reads of samples failed as the count of the shelf's faults rose by, and none where
-- it did not rise. The lines of each program in the text are those that it writes alone
pub record HaveLines (files : List ℕ → Option (List ℕ)) (list : List ℕ) (before now : ℕ) (put : List ℕ → Type 0) : Type 0 where
  pub entries : List Entry
  pub has : HasList (Some files) list entries
  pub failed : List Bool
  pub parts : List Part
  pub parts_are : ArePartsOf files entries failed parts
  pub few : RoseBy before now (count_by (λ f. f) failed)
  pub none : IsSteady before now → All (λ f. f ≡ false) failed
  pub text : put (share_text parts)
  pub alone : (k : ℕ) (part : Part) → slice_get parts k ≡ Some part → lines_of_program k (share_text parts) ≡ written part.rows

-- by the limit that was passed: one of samples, or another
abbrev pub ByLimit : Type 0 → Type 0 → Cap → Type 0
ByLimit whole none Cap.SampleBytes = whole
ByLimit whole none Cap.Samples = whole
ByLimit whole none cap = none

-- by the cause that ended a program: its samples ended so, or it was refused
abbrev pub ByCause : Type 0 → Type 0 → Cause → Type 0
ByCause whole none (Cause.BadSample line) = whole
ByCause whole none (Cause.Limit which) = ByLimit whole none which
ByCause whole none cause = none

-- by the answer: the text is written, or its first bytes, or nothing, for which a failed read has a cause of its own
abbrev pub ByEnd : Type 0 → Type 0 → Type 0 → Type 0 → Answer → Type 0
ByEnd whole cut unread none Answer.Ok = whole
ByEnd whole cut unread none (Answer.Part program cause) = ByCause whole none cause
ByEnd whole cut unread none Answer.ReadFault = unread ⊎ whole
ByEnd whole cut unread none Answer.WriteFault = cut
ByEnd whole cut unread none answer = none

-- nothing is written: the list or a program of it is not there, or a read of one of them failed
pub record IsUnread (files : List ℕ → Option (List ℕ)) (list : List ℕ) (k : Call) : Type 0 where
  pub cause : IsListRefusal (Some files) list k.before.faults k.now.faults Answer.ReadFault
      ⊎ ((entries : List Entry) × (HasList (Some files) list entries × IsProgramRefusal (Some files) k.before.faults k.now.faults 0 entries Answer.ReadFault))
  pub unwritten : k.new ≡ k.old

-- what is written over told files
abbrev pub AreSharedLines : (List ℕ → Option (List ℕ)) → List ℕ → Call → Answer → Type 0
AreSharedLines files list k answer =
    ByEnd (HaveLines files list k.before.faults k.now.faults (Appends k.old k.new)) (HaveLines files list k.before.faults k.now.faults (AppendsFront k.old k.new)) (IsUnread files list k) (k.new ≡ k.old) answer
