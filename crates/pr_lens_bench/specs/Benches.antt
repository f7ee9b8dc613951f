-- The bench on the samples of a file.
use Rattle.std.specs.Prelude.{◌≡◌, ◌<◌, ◌≤◌, ◌⊎◌, ⊤, ℕ, List, length}
use Rattle.pr_edge.specs.Files.{Told, HasReadCause}
use Rattle.pr_lang.specs.declared.trees.Program.{Program}
use Rattle.pr_samples.specs.Fed.{Ending, End, BadSample, Limit}
use Rattle.pr_tool_answers.specs.declared.answers.Answer.{Answer}
use Rattle.pr_tool_modes.specs.Files.{IsText}
use Rattle.pr_tool_modes.specs.Programs.{inputs_of}
use Rattle.pr_tool_modes.specs.Samples.{fed_in}
use Rattle.pr_lens_signals.specs.Signals.{AreFirst}
use Rattle.pr_lens_rtl_text.specs.Limits.{most_text_bytes}
use Rattle.pr_lens_bench.specs.declared.texts.Design.{Design}
use Rattle.pr_lens_bench.specs.declared.trials.NoBench.{NoBench}
use Rattle.pr_lens_bench.specs.declared.trials.NoBench.TheVariants.{Long, Ended}
use Rattle.pr_lens_bench.specs.Texts.{bench_on, lines_on}

-- the samples of a file end so, before their lines have too many bytes
pub record EndsSo (told : Told) (name : List ℕ) (program : Program) (design : Design) (ending : Ending) : Type 0 where
  pub file : List ℕ
  pub is : IsText told name file
  pub ends : (fed_in (inputs_of program) file).ending ≡ ending
  pub samples : List (List ℕ)
  pub all : samples ≡ (fed_in (inputs_of program) file).samples
  pub short : length (lines_on program design samples) ≤ most_text_bytes

-- these are all samples of a file, and the text is the bench on them and on what the program means on them
pub record IsBench (told : Told) (name : List ℕ) (program : Program) (design : Design) (text : List ℕ) : Type 0 where
  pub file : List ℕ
  pub is : IsText told name file
  pub ends : (fed_in (inputs_of program) file).ending ≡ End
  pub samples : List (List ℕ)
  pub all : samples ≡ (fed_in (inputs_of program) file).samples
  pub bench : text ≡ bench_on program design samples
  pub short : length text ≤ most_text_bytes

-- the lines on first samples of a file have too many bytes, whatever stands behind them in the file
pub record HasLongStart (told : Told) (name : List ℕ) (program : Program) (design : Design) : Type 0 where
  pub file : List ℕ
  pub is : IsText told name file
  pub samples : List (List ℕ)
  pub first : AreFirst (inputs_of program) samples file
  pub long : most_text_bytes < length (lines_on program design samples)

-- the bench on all samples of a file has too many bytes
pub record HasLongWhole (told : Told) (name : List ℕ) (program : Program) (design : Design) : Type 0 where
  pub file : List ℕ
  pub is : IsText told name file
  pub ends : (fed_in (inputs_of program) file).ending ≡ End
  pub samples : List (List ℕ)
  pub all : samples ≡ (fed_in (inputs_of program) file).samples
  pub long : most_text_bytes < length (bench_on program design samples)

abbrev pub IsLongBench : Told → List ℕ → Program → Design → Type 0
IsLongBench told name program design = HasLongStart told name program design ⊎ HasLongWhole told name program design

-- why there is no bench on the samples of a file
abbrev pub IsUnbenched : Told → List ℕ → Program → Design → ℕ → ℕ → NoBench → Type 0
IsUnbenched told name program design before now Long = IsLongBench told name program design
IsUnbenched told name program design before now (Ended (Answer.BadSample line)) = EndsSo told name program design (BadSample line)
IsUnbenched told name program design before now (Ended (Answer.Limit which)) = EndsSo told name program design (Limit which)
IsUnbenched told name program design before now (Ended Answer.ReadFault) = HasReadCause told name before now
IsUnbenched told name program design before now (Ended Answer.Memory) = ⊤
IsUnbenched told name program design before now (Ended answer) = ⊥
