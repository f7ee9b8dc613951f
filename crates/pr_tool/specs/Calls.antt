-- What a call of the tool comes to, by its request.
use Rattle.std.specs.Prelude.{◌≡◌, ◌⊎◌, ℕ, List, [], Option, Some, None, unwrap_or}
use Rattle.pr_edge.specs.Files.{Told}
use Rattle.pr_tool_answers.specs.declared.answers.Answer.{Answer}
use Rattle.pr_tool_modes.specs.declared.benches.Bench.{Bench}
use Rattle.pr_tool_modes.specs.Calls.{Call}
use Rattle.pr_tool_modes.specs.Evaluations.{IsEvaluated, IsEvalVerdict}
use Rattle.pr_tool_modes.specs.Executions.{HasCome, IsRunVerdict}
use Rattle.pr_tool_modes.specs.Folds.{IsFolded, HasExtended, AreMarkBytes, AreExtendedBytes}
use Rattle.pr_tool_modes.specs.Generations.{IsGenerated, IsGenVerdict}
use Rattle.pr_tool_modes.specs.Jobs.{Job}
use Rattle.pr_tool_modes.specs.Lines.{AreEvalLines, AreProgramLines, AreConfigurationLines}
use Rattle.pr_tool_modes.specs.Resumptions.{HasMoved, AreMovedLines, IsMoveVerdict}
use Rattle.pr_tool_modes.specs.Sources.{ConfSource, File, Text, Mark}
use Rattle.pr_tool_modes.specs.Texts.{IsTexted, AreTextBytes, IsTextVerdict}
use Rattle.pr_tool_share.specs.Ends.{IsShareVerdict}
use Rattle.pr_tool_share.specs.Lines.{AreSharedLines}
use Rattle.pr_tool_share.specs.Shares.{IsSharedBy}
use Rattle.pr_tool.specs.Requests.{Request, Texts, Runs, Folds, Moves, Extends, Evaluates, Generates, Shares, request_of}
use Rattle.pr_tool.specs.Words.{Asked}

-- nothing is read or written, and the bench is as it was
pub record IsUnchanged (k : Call) (was bench : Bench) : Type 0 where
  pub unread : k.now ≡ k.before
  pub unwritten : k.new ≡ k.old
  pub kept : bench ≡ was

-- what a request comes to; only runs change the bench
abbrev pub IsDone : Request → Call → Bench → Bench → Answer → Type 0
IsDone (Texts form source) k was bench answer = IsTexted form source k answer × (bench ≡ was)
IsDone (Runs j) k was bench answer = HasCome j k was bench answer
IsDone (Folds j) k was bench answer = IsFolded j k answer × (bench ≡ was)
IsDone (Moves r) k was bench answer = HasMoved r k was bench answer
IsDone (Extends r) k was bench answer = HasExtended r k answer × (bench ≡ was)
IsDone (Evaluates first second) k was bench answer = IsEvaluated first second k answer × (bench ≡ was)
IsDone (Generates g) k was bench answer = IsGenerated g k.old k.new k.out_before k.out_now was bench answer
IsDone (Shares list stripes) k was bench answer = IsSharedBy list stripes k answer × (bench ≡ was)

-- what a call comes to: memory may want before anything is done
abbrev pub IsCalled : Asked → Call → Bench → Bench → Answer → Type 0
IsCalled None k was bench answer = ((answer ≡ Answer.Usage) ⊎ (answer ≡ Answer.Memory)) × IsUnchanged k was bench
IsCalled (Some order) k was bench answer = ((answer ≡ Answer.Memory) × IsUnchanged k was bench) ⊎ IsDone (request_of order) k was bench answer

-- ---- what it wrote
-- the lines of a run, by where its configuration comes from
abbrev pub AreLines : (List ℕ → Option (List ℕ)) → Job → ConfSource → Call → Bench → Bench → Answer → Type 0
AreLines files j (File name) k was bench answer = AreConfigurationLines files j k was bench answer
AreLines files j (Mark name count) k was bench answer = AreConfigurationLines files j k was bench answer
AreLines files j (Text name target) k was bench answer = AreProgramLines files j k was bench answer

-- what is written for a request over told files, and what is on the bench
abbrev pub HasGained : (List ℕ → Option (List ℕ)) → Request → Call → Bench → Bench → Answer → Type 0
HasGained files (Texts form source) k was bench answer = AreTextBytes files form source k answer × (bench ≡ was)
HasGained files (Runs j) k was bench answer = AreLines files j j.source k was bench answer
HasGained files (Folds j) k was bench answer = AreMarkBytes files j k answer × (bench ≡ was)
HasGained files (Moves r) k was bench answer = AreMovedLines files r k was bench answer
HasGained files (Extends r) k was bench answer = AreExtendedBytes files r k answer × (bench ≡ was)
HasGained files (Evaluates first second) k was bench answer = AreEvalLines files first (unwrap_or (files second) []) k.old k.new answer × (bench ≡ was)
HasGained files (Generates g) k was bench answer = IsGenerated g k.old k.new k.out_before k.out_now was bench answer
HasGained files (Shares list stripes) k was bench answer = AreSharedLines files list k answer × (bench ≡ was)

-- ---- the verdict
-- what a request is to come to, by the files alone
abbrev pub IsRequestVerdict : (List ℕ → Option (List ℕ)) → Request → Answer → Type 0
IsRequestVerdict files (Texts form source) answer = IsTextVerdict files source answer
IsRequestVerdict files (Runs j) answer = IsRunVerdict files j answer
IsRequestVerdict files (Folds j) answer = IsRunVerdict files j answer
IsRequestVerdict files (Moves r) answer = IsMoveVerdict files r answer
IsRequestVerdict files (Extends r) answer = IsMoveVerdict files r answer
IsRequestVerdict files (Evaluates first second) answer = IsEvalVerdict files first second answer
IsRequestVerdict files (Generates g) answer = IsGenVerdict g answer
IsRequestVerdict files (Shares list stripes) answer = IsShareVerdict files list answer

-- what a call is to answer, by its words and the files alone
abbrev pub IsVerdict : (List ℕ → Option (List ℕ)) → Asked → Answer → Type 0
IsVerdict files None answer = answer ≡ Answer.Usage
IsVerdict files (Some order) answer = IsRequestVerdict files (request_of order) answer

-- the same where the files are told
abbrev pub IsToldVerdict : Told → Asked → Answer → Type 0
IsToldVerdict None asked answer = ⊥
IsToldVerdict (Some files) asked answer = IsVerdict files asked answer
