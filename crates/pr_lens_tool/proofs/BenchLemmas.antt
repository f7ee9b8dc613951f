-- Benches that are made for an order, or not.
use Rattle.std.proofs.Common.{◌≡◌, ◌≤◌, ℕ, Bool, List, length, subst}
use Rattle.pr_base.specs.Fabrics.{columns, registers}
use Rattle.pr_base.specs.Limits.{most_program_bytes}
use Rattle.pr_edge.specs.Files.{Told}
use Rattle.pr_lang.specs.declared.trees.Program.{Program}
use Rattle.pr_conf.specs.Shape.{Shape}
use Rattle.pr_compile_front.specs.Passed.{IsPassed}
use Rattle.pr_tool_answers.specs.declared.answers.Answer.{Answer}
use Rattle.pr_tool_words.specs.Lawful.{Text}
use Rattle.pr_tool_modes.specs.Files.{IsText}
use Rattle.pr_tool_modes.proofs.FileLemmas.{cause_earlier}
use Rattle.pr_lens_bench.specs.declared.texts.Design.{Design}
use Rattle.pr_lens_bench.specs.declared.trials.Trial.{Trial}
use Rattle.pr_lens_bench.specs.declared.trials.NoBench.{NoBench}
use Rattle.pr_lens_bench.specs.declared.trials.NoBench.TheVariants.{Long, Ended}
use Rattle.pr_lens_bench.specs.Benches.{IsUnbenched}
use Rattle.pr_lens_bench.specs.Reading.{IsFit}
use Rattle.pr_lens_tool.specs.declared.outcomes.Outcome.{Outcome}
use Rattle.pr_lens_tool.specs.declared.outcomes.Outcome.TheVariants.{LongBench, Streamed}
use Rattle.pr_lens_tool.specs.Benches.{HasBenchOf, IsNoBenchOf, IsDesign, IsPlanned, IsUntried}
use Rattle.pr_lens_tool.specs.Modules.{IsCompilation}
use Rattle.pr_lens_tool.specs.Asked.{AskedTarget}

pub trial_fits : (text : List ℕ) (t : Trial) → IsPassed text t.front → IsFit t
trial_fits text t passed = record { flat = passed.flat; widths = passed.widths.are }

pub planned_is : (N P : ℕ) (narrowed : Bool) (name : List ℕ) (seed : ℕ) (text : List ℕ) (program : Program) (conf : Shape) (design : Design) → IsCompilation N P narrowed text program conf → IsDesign name seed program conf design → IsPlanned N P narrowed name seed text program design
planned_is N P narrowed name seed text program conf design compiled is = record { conf = conf; compiled = compiled; is = is }

-- a later fault of the second file is one of the call
unbenched_earlier : (told : Told) (name : List ℕ) (program : Program) (design : Design) (a b now : ℕ) (s : NoBench) → a ≤ b → IsUnbenched told name program design b now s → IsUnbenched told name program design a now s
unbenched_earlier told name program design a b now Long le is = is
unbenched_earlier told name program design a b now (Ended (Answer.BadSample line)) le is = is
unbenched_earlier told name program design a b now (Ended (Answer.Limit which)) le is = is
unbenched_earlier told name program design a b now (Ended Answer.ReadFault) le is = cause_earlier told name a b now le is
unbenched_earlier told name program design a b now (Ended Answer.Memory) le is = is
unbenched_earlier told name program design a b now (Ended answer) le is = absurd is

module _ (told told' : Told) (target : AskedTarget) (samples name : Text) (seed : ℕ) (text : List ℕ) (t : Trial) (file : IsText told target.file text) (short : length text ≤ most_program_bytes)
    (planned : IsPlanned (columns target.fabric) (registers target.fabric) target.narrowed name seed text t.front.scoped.program t.design) (same : told' ≡ told) where
  has_bench : (Holds : Program → Design → Type 0) → Holds t.front.scoped.program t.design → HasBenchOf told target name seed Holds
  has_bench Holds holds = record {
    text = text;
    file = file;
    short = short;
    program = t.front.scoped.program;
    design = t.design;
    planned = planned;
    holds = holds;
  }

  pub bench_made : (Holds : Told → List ℕ → Program → Design → Type 0) → Holds told' samples t.front.scoped.program t.design → HasBenchOf told target name seed (Holds told samples)
  bench_made Holds holds = has_bench (Holds told samples) (subst (λ (x : Told). Holds x samples t.front.scoped.program t.design) same holds)

  pub bench_unmade : (a b now : ℕ) (outcome : Outcome) → a ≤ b → IsUntried (IsUnbenched told' samples t.front.scoped.program t.design b now) outcome → IsNoBenchOf told target samples name seed a now outcome
  bench_unmade a b now (Streamed answer) le is =
      has_bench (λ program design. IsUnbenched told samples program design a now (Ended answer))
      (unbenched_earlier told samples t.front.scoped.program t.design a b now (Ended answer) le (subst (λ (x : Told). IsUnbenched x samples t.front.scoped.program t.design b now (Ended answer)) same is))
  bench_unmade a b now LongBench le is =
      has_bench (λ program design. IsUnbenched told samples program design a now Long)
      (unbenched_earlier told samples t.front.scoped.program t.design a b now Long le (subst (λ (x : Told). IsUnbenched x samples t.front.scoped.program t.design b now Long) same is))
  bench_unmade a b now outcome le is = absurd is
