-- What is told of streams, from what is known of its parts.
use Rattle.std.proofs.Common.{◌≡◌, ◌≤◌, ℕ, List, subst}
use Rattle.pr_edge.specs.Files.{Told}
use Rattle.pr_edge.specs.Tape.{Tape}
use Rattle.pr_compile_front.specs.declared.fronts.Front.{Front}
use Rattle.pr_lang.specs.declared.trees.Program.{Program}
use Rattle.pr_tool_answers.specs.declared.answers.Answer.{Answer}
use Rattle.pr_tool_words.specs.Lawful.{Text}
use Rattle.pr_tool_modes.specs.Programs.{IsLoaded}
use Rattle.pr_tool_modes.proofs.FileLemmas.{cause_earlier}
use Rattle.pr_lens_signals.specs.Calls.{call}
use Rattle.pr_lens_signals.specs.Signals.{IsShown}
use Rattle.pr_lens_signals.specs.Manners.{IsForeign, Manner}
use Rattle.pr_lens_tool.specs.Streams.{HasForeign, HasStreams}

-- samples that are read after the program
shown_earlier : (manner : Manner) (name : List ℕ) (program : Program) (told : Told) (a b now : ℕ) (old new : Tape) (wb wn : ℕ) (answer : Answer) → a ≤ b → IsShown manner name program (call told b now old new wb wn) answer → IsShown manner name program (call told a now old new wb wn) answer
shown_earlier manner name program told a b now old new wb wn Answer.ReadFault h shown = (cause_earlier told name a b now h shown.0, shown.1)
shown_earlier manner name program told a b now old new wb wn Answer.Ok h shown = shown
shown_earlier manner name program told a b now old new wb wn (Answer.BadSample line) h shown = shown
shown_earlier manner name program told a b now old new wb wn (Answer.Limit which) h shown = shown
shown_earlier manner name program told a b now old new wb wn Answer.WriteFault h shown = shown
shown_earlier manner name program told a b now old new wb wn Answer.Memory h shown = shown
shown_earlier manner name program told a b now old new wb wn answer h shown = absurd shown

pub has_streams : (name samples : Text) (manner : Manner) (f : Front) (told told' : Told) (a b now : ℕ) (old new : Tape) (wb wn : ℕ) (answer : Answer) → IsLoaded told name f → told' ≡ told → a ≤ b
    → IsShown manner samples f.scoped.program (call told' b now old new wb wn) answer → HasStreams name samples manner (call told a now old new wb wn) answer
has_streams name samples manner f told told' a b now old new wb wn answer loaded same later shown = record {
  program = f.scoped.program;
  widths = f.widths;
  has = record { text = loaded.text; file = loaded.file; short = loaded.short; has = loaded.passed.widths };
  shown = shown_earlier manner samples f.scoped.program told a b now old new wb wn answer later (subst (λ (t : Told). IsShown manner samples f.scoped.program (call t b now old new wb wn) answer) same shown);
}

pub has_foreign : (name : Text) (manner : Manner) (f : Front) (told : Told) (a now : ℕ) (old new : Tape) (wb wn place : ℕ) → IsLoaded told name f → IsForeign manner f.scoped.program place → new ≡ old → HasForeign name manner (call told a now old new wb wn) place
has_foreign name manner f told a now old new wb wn place loaded foreign same = record {
  program = f.scoped.program;
  widths = f.widths;
  has = record { text = loaded.text; file = loaded.file; short = loaded.short; has = loaded.passed.widths };
  foreign = foreign;
  unwritten = same;
}
