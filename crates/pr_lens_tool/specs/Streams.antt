-- What comes of it that the streams of a program are asked for.
use Rattle.std.specs.Prelude.{◌≡◌, ℕ, List}
use Rattle.pr_lang.specs.declared.trees.Program.{Program}
use Rattle.pr_tool_answers.specs.declared.answers.Answer.{Answer}
use Rattle.pr_tool_words.specs.Lawful.{Text}
use Rattle.pr_tool_modes.specs.Programs.{HasProgram, IsNotLoaded}
use Rattle.pr_lens_signals.specs.Calls.{Call}
use Rattle.pr_lens_signals.specs.Manners.{IsForeign, Manner}
use Rattle.pr_lens_signals.specs.Signals.{IsShown}
use Rattle.pr_lens_tool.specs.declared.outcomes.Outcome.{Outcome}
use Rattle.pr_lens_tool.specs.declared.outcomes.Outcome.TheVariants.{NoStream, Plain, Streamed}

-- the program is refused, as `piperench` refuses it, and nothing is written
pub record HasNoStreams (name : Text) (c : Call) (answer : Answer) : Type 0 where
  pub cause : IsNotLoaded c.told name c.reads_before c.reads_now answer
  pub unwritten : c.new ≡ c.old

-- the program is refused at no point, and its streams are told on the samples of a second file
pub record HasStreams (name samples : Text) (manner : Manner) (c : Call) (answer : Answer) : Type 0 where
  pub program : Program
  pub widths : List ℕ
  pub has : HasProgram c.told name program widths
  pub shown : IsShown manner samples program c answer

-- a name that is to be shown as two's complement is that of no stream, and nothing is written
pub record HasForeign (name : Text) (manner : Manner) (c : Call) (place : ℕ) : Type 0 where
  pub program : Program
  pub widths : List ℕ
  pub has : HasProgram c.told name program widths
  pub foreign : IsForeign manner program place
  pub unwritten : c.new ≡ c.old

abbrev pub TellsStreams : (name samples : Text) → Manner → Call → Outcome → Type 0
TellsStreams name samples manner c (Plain answer) = HasNoStreams name c answer
TellsStreams name samples manner c (Streamed answer) = HasStreams name samples manner c answer
TellsStreams name samples manner c (NoStream place) = HasForeign name manner c place
TellsStreams name samples manner c outcome = ⊥
