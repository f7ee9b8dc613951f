-- The module of a program.
use Rattle.std.specs.Prelude.{◌≡◌, ◌<◌, ◌≤◌, ℕ, Bool, List, [], length}
use Rattle.pr_lang.specs.declared.trees.Program.{Program}
use Rattle.pr_conf.specs.Shape.{Shape}
use Rattle.pr_compile_front.specs.Refusals.{HasWidths}
use Rattle.pr_compile.specs.Configured.{IsConfiguredBy}
use Rattle.pr_tool_answers.specs.declared.answers.Answer.{Answer}
use Rattle.pr_lens_rtl_text.specs.Limits.{most_text_bytes}
use Rattle.pr_lens_rtl_text.specs.declared.notes.Notes.{Notes}
use Rattle.pr_lens_rtl_text.specs.Modules.{IsRtlText, comments_of, rtl_text}
use Rattle.pr_lens_notes.specs.Noted.{AreNotes}
use Rattle.pr_lens_tool.specs.declared.outcomes.Outcome.{Outcome}
use Rattle.pr_lens_tool.specs.declared.outcomes.Outcome.TheVariants.{Plain, LongModule}

-- no point refuses a text of this program, and this is its configuration
pub record IsCompilation (N P : ℕ) (narrow : Bool) (text : List ℕ) (program : Program) (conf : Shape) : Type 0 where
  pub widths : List ℕ
  pub has : HasWidths text program widths
  pub configured : IsConfiguredBy N P narrow program widths conf

-- the module of a program and its configuration is written, with a name and with these comments
pub record IsWritten (N P : ℕ) (notes : Notes) (name : List ℕ) (program : Program) (conf : Shape) (written : List ℕ) : Type 0 where
  pub is : IsRtlText N P (comments_of N P notes conf) name program conf written
  pub short : length written ≤ most_text_bytes

-- it is too long, and nothing is written
pub record IsUnwritten (N P : ℕ) (notes : Notes) (name : List ℕ) (program : Program) (conf : Shape) (written : List ℕ) : Type 0 where
  pub long : most_text_bytes < length (rtl_text N P (comments_of N P notes conf) name program conf)
  pub none : written ≡ []

-- either
abbrev pub IsWrittenOrLong : ℕ → ℕ → Notes → List ℕ → Program → Shape → Outcome → List ℕ → Type 0
IsWrittenOrLong N P notes name program conf (Plain Answer.Ok) written = IsWritten N P notes name program conf written
IsWrittenOrLong N P notes name program conf LongModule written = IsUnwritten N P notes name program conf written
IsWrittenOrLong N P notes name program conf outcome written = ⊥

-- either, of the program of a text and its configuration, with comments that name the program's streams
pub record IsModuleOrLong (N P : ℕ) (narrow : Bool) (text name : List ℕ) (outcome : Outcome) (written : List ℕ) : Type 0 where
  pub program : Program
  pub conf : Shape
  pub compiled : IsCompilation N P narrow text program conf
  pub notes : Notes
  pub noted : AreNotes N P narrow text notes
  pub told : IsWrittenOrLong N P notes name program conf outcome written
