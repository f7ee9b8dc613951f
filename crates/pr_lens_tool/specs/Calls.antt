-- What a call reads and writes, and what it comes to.
use Rattle.std.specs.Prelude.{◌≡◌, ◌⊎◌, ℕ, List, Option, Some, None, String}
use Rattle.std.specs.declared.alloc.Global.{Global}
use Rattle.pr_edge.specs.Files.{Told}
use Rattle.pr_tool_answers.specs.declared.answers.Answer.{Answer}
use Rattle.pr_lens_signals.specs.Calls.{Call}
use Rattle.pr_lens_tool.specs.declared.outcomes.Outcome.{Outcome}
use Rattle.pr_lens_tool.specs.declared.outcomes.Outcome.TheVariants.{Plain, Usage}
use Rattle.pr_lens_tool.specs.Asked.{Asked, AskedProduct, AskedTarget, AskedTask, Bench, OfLog, OfProgram, Signals, Whole}
use Rattle.pr_lens_tool.specs.Outcomes.{IsWritten, help_text}
use Rattle.pr_lens_tool.specs.Programs.{IsToldOf, IsUntold}
use Rattle.pr_lens_tool.specs.Logs.{IsDrawing, IsUndrawn}
use Rattle.pr_lens_tool.specs.Streams.{TellsStreams}
use Rattle.pr_lens_tool.specs.Benches.{IsBenchOf, IsNoBenchOf}
use Rattle.pr_lens_tool.specs.Orders.{AskForHelp, MayAskForHelp, asked_by}

-- ---- a text that is made whole
abbrev pub IsMade : AskedProduct → Told → AskedTarget → Outcome → List ℕ → Type 0
IsMade (OfProgram question) told target outcome written = IsToldOf question told target outcome written
IsMade (OfLog drawing window) told target outcome written = (outcome ≡ Plain Answer.Ok) × IsDrawing drawing window told target.file written
IsMade (Bench samples name seed) told target outcome written = (outcome ≡ Plain Answer.Ok) × IsBenchOf told target samples name seed written

-- why none is
abbrev pub IsUnmade : AskedProduct → Told → AskedTarget → ℕ → ℕ → Outcome → Type 0
IsUnmade (OfProgram question) told target before now outcome = IsUntold told target before now outcome
IsUnmade (OfLog drawing window) told target before now outcome = IsUndrawn window told target.file before now outcome
IsUnmade (Bench samples name seed) told target before now outcome = IsNoBenchOf told target samples name seed before now outcome

-- ---- what a call comes to
-- what is made is written, whole but for a write that fails
pub record Writes (product : AskedProduct) (target : AskedTarget) (c : Call) (result : Outcome) : Type 0 where
  pub text : List ℕ
  pub outcome : Outcome
  pub made : IsMade product c.told target outcome text
  pub written : IsWritten c.old c.new c.writes_before c.writes_now text outcome result

-- nothing is written
pub record IsSilent (product : AskedProduct) (target : AskedTarget) (c : Call) (result : Outcome) : Type 0 where
  pub unmade : IsUnmade product c.told target c.reads_before c.reads_now result
  pub same : c.new ≡ c.old

abbrev pub Follows : AskedTask → AskedTarget → Call → Outcome → Type 0
Follows (Whole product) target c result = Writes product target c result ⊎ IsSilent product target c result
Follows (Signals samples manner) target c result = TellsStreams target.file samples manner c result

abbrev pub IsFollowed : Asked → Call → Outcome → Type 0
IsFollowed asked c result = Follows asked.task asked.target c result

-- this, with nothing written
pub record EndsWith (outcome : Outcome) (c : Call) (result : Outcome) : Type 0 where
  pub is : result ≡ outcome
  pub same : c.new ≡ c.old

-- the help is written
abbrev pub Helps : Call → Outcome → Type 0
Helps c result = IsWritten c.old c.new c.writes_before c.writes_now help_text (Plain Answer.Ok) result

-- words that are no order may ask for the help, and get it; or they do not just ask for it, and are refused; or memory was wanting
abbrev pub IsOther : List (String Global) → Call → Outcome → Type 0
IsOther words c result =
    (MayAskForHelp words × Helps c result) ⊎ (((AskForHelp words → ⊥) × EndsWith Usage c result) ⊎ EndsWith (Plain Answer.Memory) c result)

-- what the words ask for is followed, where they are an order
abbrev pub IsCalledBy : Option Asked → List (String Global) → Call → Outcome → Type 0
IsCalledBy (Some order) words c result = IsFollowed order c result ⊎ EndsWith (Plain Answer.Memory) c result
IsCalledBy None words c result = IsOther words c result

abbrev pub IsCalled : List (String Global) → Call → Outcome → Type 0
IsCalled words c result = IsCalledBy (asked_by words) words c result
