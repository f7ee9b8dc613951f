-- Lines that are made while samples are read.
use Rattle.std.specs.Prelude.{◌≡◌, ◌<◌, ◌≤◌, ◌++◌, ⊤, ℕ, List, [], length}
use Rattle.pr_edge.specs.Files.{Told, IsMissing}
use Rattle.pr_flat.specs.Widths.{AreWidths}
use Rattle.pr_lang.specs.declared.trees.Program.{Program}
use Rattle.pr_expand_spec.specs.Programs.{equations_of}
use Rattle.pr_compile_front.specs.Passed.{HasEquations}
use Rattle.pr_samples.specs.declared.feed.Feed.{Feed}
use Rattle.pr_samples.specs.declared.feed.Got.{Got}
use Rattle.pr_samples.specs.Feed.{name_of, ReadsOn}
use Rattle.pr_tool_answers.specs.declared.answers.Answer.{Answer}
use Rattle.pr_tool_modes.specs.Evaluations.{AreAll}
use Rattle.pr_lens_signals.specs.Reading.{AreFirst}
use Rattle.pr_lens_rtl_text.specs.Limits.{most_text_bytes}
use Rattle.pr_lens_bench.specs.declared.texts.Design.{Design}
use Rattle.pr_lens_bench.specs.declared.trials.Trial.{Trial}
use Rattle.pr_lens_bench.specs.declared.trials.NoBench.{NoBench}
use Rattle.pr_lens_bench.specs.declared.trials.NoBench.TheVariants.{Long, Ended}
use Rattle.pr_lens_bench.specs.declared.reading.Lines.{Lines}
use Rattle.pr_lens_bench.specs.Texts.{before_text, behind_text, lines_on}

-- a program with its equations and their widths
pub record IsFit (t : Trial) : Type 0 where
  pub flat : HasEquations t.front.scoped.program t.front.flat
  pub widths : AreWidths (equations_of t.front.scoped.program).equations t.front.widths

-- a feed was read to its end: the lines on all samples of each file that begins so, and how many they are
pub record HasLines (told : Told) (program : Program) (design : Design) (first now : Feed) (text : List ℕ) (count : ℕ) (end : Got) : Type 0 where
  pub samples : List (List ℕ)
  pub reads : ReadsOn told [] first now (λ file. AreAll first file samples end)
  pub lines : text ≡ lines_on program design samples
  pub counted : count ≡ length samples

-- a feed was read so far, the file is there, and the lines on these first samples of each file that begins so have too
-- many bytes
pub record HasLongLines (told : Told) (program : Program) (design : Design) (first now : Feed) : Type 0 where
  pub samples : List (List ℕ)
  pub reads : ReadsOn told [] first now (λ file. AreFirst first file samples)
  pub there : IsMissing told (name_of now) → ⊥
  pub long : most_text_bytes < length (lines_on program design samples)

-- why no more lines are made
abbrev pub IsCut : Told → Program → Design → Feed → Feed → NoBench → Type 0
IsCut told program design first now Long = HasLongLines told program design first now
IsCut told program design first now (Ended Answer.Memory) = ⊤
IsCut told program design first now (Ended answer) = ⊥

-- ---- the text round the lines
abbrev pub with_lines : Design → Lines → List ℕ
with_lines design lines = before_text design lines.count ++ lines.text.items ++ behind_text design

pub record IsShort (design : Design) (lines : Lines) (text : List ℕ) : Type 0 where
  pub is : text ≡ with_lines design lines
  pub short : length text ≤ most_text_bytes

abbrev pub IsNotShort : Design → Lines → NoBench → Type 0
IsNotShort design lines Long = most_text_bytes < length (with_lines design lines)
IsNotShort design lines (Ended Answer.Memory) = ⊤
IsNotShort design lines (Ended answer) = ⊥
