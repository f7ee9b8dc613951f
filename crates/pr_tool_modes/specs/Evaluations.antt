-- What the mode comes to that evaluates a program on samples.
use Rattle.std.specs.Prelude.{◌≡◌, ◌≢◌, ◌⊎◌, ◌≤◌, ◌^◌, ℕ, List, [], length, Option, Some}
use Rattle.pr_base.specs.declared.caps.Cap.{Cap}
use Rattle.pr_base.specs.Rows.{written}
use Rattle.pr_base.specs.Limits.{most_evaluated_bytes, most_program_bytes}
use Rattle.pr_edge.specs.Count.{Rose}
use Rattle.pr_edge.specs.Files.{Told, HasReadCause}
use Rattle.pr_edge.specs.Tape.{Tape, Appends, AppendsFront}
use Rattle.pr_lang.specs.declared.trees.Program.{Program}
use Rattle.pr_lang_meaning.specs.Programs.{out}
use Rattle.pr_samples.specs.Fed.{Ending, End, BadSample, Limit}
use Rattle.pr_samples.specs.Feed.{widths_of, limit_of, most_of, fed, ReadsOn}
use Rattle.pr_samples.specs.declared.feed.Feed.{Feed}
use Rattle.pr_samples.specs.declared.feed.Got.{Got}
use Rattle.pr_run.specs.Setting.{IsFresh}
use Rattle.pr_tool_answers.specs.declared.answers.Answer.{Answer}
use Rattle.pr_tool_modes.specs.Calls.{Call}
use Rattle.pr_tool_modes.specs.Files.{IsText, ShowsFault, IsLong, IsFileRefusal, IsRefusedFile}
use Rattle.pr_tool_modes.specs.Programs.{inputs_of, IsBadProgram, HasProgram}
use Rattle.pr_tool_modes.specs.Samples.{fed_in, whole_file_verdict}

-- the file has no more bytes than are allowed, these are all its samples, and they end so
pub record HasSamples (told : Told) (name widths : List ℕ) (rows : List (List ℕ)) (ending : Ending) : Type 0 where
  pub text : List ℕ
  pub file : IsText told name text
  pub short : length text ≤ most_evaluated_bytes
  pub all : rows ≡ (fed_in widths text).samples
  pub ends : (fed_in widths text).ending ≡ ending

-- the samples end so, and the lines of what the program means on them are written
pub record IsWhole (told : Told) (name : List ℕ) (program : Program) (ending : Ending) (old new : Tape) : Type 0 where
  pub rows : List (List ℕ)
  pub samples : HasSamples told name (inputs_of program) rows ending
  pub text : Appends old new (written (out program rows))

-- a write failed: the first bytes of these lines are written
pub record IsPrefix (told : Told) (name : List ℕ) (program : Program) (old new : Tape) : Type 0 where
  pub rows : List (List ℕ)
  pub ending : Ending
  pub samples : HasSamples told name (inputs_of program) rows ending
  pub text : AppendsFront old new (written (out program rows))

-- what the samples of a file come to
abbrev pub IsEnd : List ℕ → Program → Call → Answer → Type 0
IsEnd name program k Answer.Ok = IsWhole k.before.told name program End k.old k.new
IsEnd name program k (Answer.BadSample line) = IsWhole k.before.told name program (BadSample line) k.old k.new
IsEnd name program k (Answer.Limit which) =
    ((which ≡ Cap.SampleBytes) × IsLong k.before.told name most_evaluated_bytes × (k.new ≡ k.old)) ⊎ IsWhole k.before.told name program (Limit which) k.old k.new
IsEnd name program k Answer.ReadFault = HasReadCause k.before.told name k.before.faults k.now.faults × (k.new ≡ k.old)
IsEnd name program k Answer.WriteFault = IsPrefix k.before.told name program k.old k.new × Rose k.out_before k.out_now
IsEnd name program k Answer.Memory = k.new ≡ k.old
IsEnd name program k answer = ⊥

-- the program is refused: nothing is written, and no other file is read
pub record HasNoResult (first : List ℕ) (k : Call) (answer : Answer) : Type 0 where
  pub cause : IsFileRefusal most_program_bytes Cap.ProgramBytes IsBadProgram k.before.told first k.before.faults k.now.faults answer
  pub unwritten : k.new ≡ k.old
  pub unread : (q : List ℕ) → q ≢ first → k.now.reach q ≡ k.before.reach q
  pub shown : ShowsFault k.before.faults k.now.faults answer

-- the program is refused at no point, and the samples decide
pub record HasResult (first second : List ℕ) (k : Call) (answer : Answer) : Type 0 where
  pub program : Program
  pub widths : List ℕ
  pub has : HasProgram k.before.told first program widths
  pub end : IsEnd second program k answer
  pub shown : ShowsFault k.before.faults k.now.faults answer

abbrev pub IsEvaluated : List ℕ → List ℕ → Call → Answer → Type 0
IsEvaluated first second k answer = HasNoResult first k answer ⊎ HasResult first second k answer

-- ---- results before they are written
-- the answer where the samples end so
abbrev pub answer_by : Got → Answer
answer_by Got.Sample = Answer.Ok
answer_by Got.End = Answer.Ok
answer_by (Got.BadSample line) = Answer.BadSample line
answer_by Got.ReadFault = Answer.ReadFault
answer_by (Got.Limit which) = Answer.Limit which

-- the answer with which a feed ends so
abbrev pub EndsBy : Got → Ending → Type 0
EndsBy Got.Sample ending = ⊥
EndsBy Got.End ending = ending ≡ End
EndsBy (Got.BadSample line) ending = ending ≡ BadSample line
EndsBy Got.ReadFault ending = ⊥
EndsBy (Got.Limit which) ending = ending ≡ Limit which

-- these are the samples of a file, and they end so
pub record AreFed (widths file : List ℕ) (rows : List (List ℕ)) (end : Got) : Type 0 where
  pub all : rows ≡ (fed_in widths file).samples
  pub ends : EndsBy end (fed_in widths file).ending

-- the lines of what a program means on the samples of a file, and how the samples end
pub record AreResults (program : Program) (file text : List ℕ) (end : Got) : Type 0 where
  pub rows : List (List ℕ)
  pub fed : AreFed (inputs_of program) file rows end
  pub lines : text ≡ written (out program rows)

-- they are those of a file that has no more bytes than are allowed
pub record HasLines (told : Told) (name : List ℕ) (program : Program) (text : List ℕ) (end : Got) : Type 0 where
  pub bytes : List ℕ
  pub file : IsText told name bytes
  pub short : length bytes ≤ most_evaluated_bytes
  pub results : AreResults program bytes text end

-- ---- results while the samples are read
-- a feed that was not asked yet, with inputs of these widths, over a file that has no more bytes than are allowed
pub record IsShortFeed (widths : List ℕ) (feed : Feed) : Type 0 where
  pub fresh : IsFresh feed
  pub inputs : widths_of feed ≡ widths
  pub limit : limit_of feed ≡ most_evaluated_bytes
  pub most : most_of feed ≡ 2 ^ 40

-- these are all samples that such a feed gives of a file, and they end so
pub record AreAll (feed : Feed) (file : List ℕ) (rows : List (List ℕ)) (end : Got) : Type 0 where
  pub all : rows ≡ (fed feed file).samples
  pub ends : EndsBy end (fed feed file).ending

-- a feed was read to its end: the lines of what a program means on all samples of each file that begins so
pub record HasEvaluated (told : Told) (program : Program) (first now : Feed) (text : List ℕ) (end : Got) : Type 0 where
  pub rows : List (List ℕ)
  pub reads : ReadsOn told [] first now (λ file. AreAll first file rows end)
  pub lines : text ≡ written (out program rows)

-- ---- results that are written
-- the text is written, and the answer is that of the samples, or a write failed
pub record IsAll (text : List ℕ) (end : Got) (old new : Tape) (answer : Answer) : Type 0 where
  pub whole : Appends old new text
  pub ends : answer ≡ answer_by end

pub record IsBroken (text : List ℕ) (old new : Tape) (before now : ℕ) (answer : Answer) : Type 0 where
  pub front : AppendsFront old new text
  pub rose : Rose before now
  pub fault : answer ≡ Answer.WriteFault

abbrev pub IsPut : List ℕ → Got → Tape → Tape → ℕ → ℕ → Answer → Type 0
IsPut text end old new before now answer = IsAll text end old new answer ⊎ IsBroken text old new before now answer

-- ---- the verdict
-- a program that no point refuses, and then its samples
pub record IsLastVerdict (files : List ℕ → Option (List ℕ)) (first second : List ℕ) (answer : Answer) : Type 0 where
  pub program : Program
  pub widths : List ℕ
  pub has : HasProgram (Some files) first program widths
  pub last : answer ≡ whole_file_verdict (inputs_of program) (files second)

abbrev pub IsEvalVerdict : (List ℕ → Option (List ℕ)) → List ℕ → List ℕ → Answer → Type 0
IsEvalVerdict files first second answer = IsRefusedFile most_program_bytes Cap.ProgramBytes IsBadProgram files first answer ⊎ IsLastVerdict files first second answer
