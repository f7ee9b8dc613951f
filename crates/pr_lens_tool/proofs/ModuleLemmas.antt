-- The module of a program, from what is known of its parts.
use Rattle.std.proofs.Common.{◌≡◌, ◌<◌, ◌≤◌, ℕ, Bool, List, [], length}
use Rattle.pr_lang.specs.declared.trees.Program.{Program}
use Rattle.pr_conf.specs.Shape.{Shape}
use Rattle.pr_compile_front.specs.Refusals.{HasWidths}
use Rattle.pr_compile.specs.Configured.{IsConfiguredBy}
use Rattle.pr_lens_rtl_text.specs.Limits.{most_text_bytes}
use Rattle.pr_lens_rtl_text.specs.declared.notes.Notes.{Notes}
use Rattle.pr_lens_rtl_text.specs.Modules.{IsRtlText, comments_of, rtl_text}
use Rattle.pr_lens_notes.specs.Noted.{AreNotes}
use Rattle.pr_lens_tool.specs.declared.outcomes.Outcome.{Outcome}
use Rattle.pr_lens_tool.specs.Modules.{IsCompilation, IsModuleOrLong, IsUnwritten, IsWritten, IsWrittenOrLong}

module _ (N P : ℕ) (notes : Notes) (name : List ℕ) (program : Program) (conf : Shape) (written : List ℕ) where
  pub written_is : IsRtlText N P (comments_of N P notes conf) name program conf written → length written ≤ most_text_bytes → IsWritten N P notes name program conf written
  written_is is short = record { is = is; short = short }

  pub unwritten_is : most_text_bytes < length (rtl_text N P (comments_of N P notes conf) name program conf) → written ≡ [] → IsUnwritten N P notes name program conf written
  unwritten_is long none = record { long = long; none = none }

module _ (N P : ℕ) (narrow : Bool) (text : List ℕ) where
  pub compilation_is : (program : Program) (widths : List ℕ) (conf : Shape) → HasWidths text program widths → IsConfiguredBy N P narrow program widths conf → IsCompilation N P narrow text program conf
  compilation_is program widths conf has configured = record { widths = widths; has = has; configured = configured }

  pub module_is : (notes : Notes) (name : List ℕ) (program : Program) (conf : Shape) (outcome : Outcome) (written : List ℕ) → IsCompilation N P narrow text program conf → AreNotes N P narrow text notes
      → IsWrittenOrLong N P notes name program conf outcome written → IsModuleOrLong N P narrow text name outcome written
  module_is notes name program conf outcome written compiled noted told = record { program = program; conf = conf; compiled = compiled; notes = notes; noted = noted; told = told }
