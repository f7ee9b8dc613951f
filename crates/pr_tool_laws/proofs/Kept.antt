-- A file that is written of a program's configuration has bytes, breaks no rule, and is short enough on the base fabric.
use Rattle.std.proofs.Common.{◌≡◌, ◌<◌, ◌≤◌, ◌+◌, ◌^◌, ℕ, Bool, true, List, length, Option, Some, None, refl, sym, ap, ap₂, subst, arith, inr}
use Rattle.pr_base.specs.Fabrics.{columns, registers}
use Rattle.pr_base.specs.declared.fabrics.Fabric.{Fabric}
use Rattle.pr_code.specs.Marks.{mark_of, bad_mark}
use Rattle.pr_code.specs.Rules.{bad_word}
use Rattle.pr_code.specs.Spelling.{bytes_of_words, words_of, has_bytes}
use Rattle.pr_code.proofs.AgainFiles.{file_again}
use Rattle.pr_code.proofs.AgainMarks.{mark_again}
use Rattle.pr_compile.specs.Configured.{IsCompiled}
use Rattle.pr_conf.specs.Shape.{Shape}
use Rattle.pr_conf.specs.Rules.{IsLawful}
use Rattle.pr_conf.specs.After.{conf_after}
use Rattle.pr_conf.proofs.AfterLaws.{lawful_after}
use Rattle.pr_expand_spec.specs.Programs.{equations_of}
use Rattle.pr_cut_units.specs.Nets.{net_of}
use Rattle.pr_tool_modes.specs.declared.targets.Target.{Target}
use Rattle.pr_tool_modes.specs.Behaviours.{IsKept}
use Rattle.pr_tool_modes.specs.Folds.{mark_after}
use Rattle.pr_tool_modes.specs.Resumptions.{IsMarkKept}
use Rattle.pr_tool_modes.specs.Samples.{pieces}
use Rattle.pr_tool_modes.proofs.BehaviourLemmas.{within, lawful_on}
use Rattle.pr_tool_modes.proofs.SourceLemmas.{of_fabric}
use Rattle.pr_tool_laws.specs.Written.{IsWritten, IsMarkWritten}
use Rattle.pr_tool_laws.proofs.ByteNets.{net_bytes}
use Rattle.pr_tool_laws.proofs.ByteConfigurations.{placed_bytes}
use Rattle.pr_tool_laws.proofs.ByteStates.{samples_are, after_bytes}
use Rattle.pr_tool_laws.proofs.Lengths.{file_short, mark_short}

-- ---- bytes
pub compiled_bytes : (N P : ℕ) (narrow : Bool) (text : List ℕ) (c : Shape) → IsCompiled N P narrow text c → has_bytes c ≡ true
compiled_bytes N P narrow text c is =
    let k = is.configured in
    let outputs = (equations_of is.program).outputs in
    subst (λ (d : Shape). has_bytes d ≡ true) (sym k.holds.is) (placed_bytes (net_of k.ready k.news outputs) k.holds.placement N (net_bytes k.ready k.news outputs))

pub bytes_after : (N P : ℕ) (c : Shape) (rows : List (List ℕ)) → has_bytes c ≡ true → has_bytes (conf_after N P c (pieces c rows)) ≡ true
bytes_after N P c rows has = after_bytes N P c (pieces c rows) has (samples_are c.inputs rows)

-- ---- rules
pub file_good : (N P : ℕ) (c : Shape) → IsLawful N P c → has_bytes c ≡ true → bad_word N P (bytes_of_words (words_of N P c)) ≡ None
file_good N P c l has = (file_again N P c (bytes_of_words (words_of N P c)) l has (inr (record { widths = within N P c l; spelled = refl }))).none

pub mark_good : (N P count : ℕ) (c : Shape) → IsLawful N P c → has_bytes c ≡ true → count ≤ 2 ^ 40 → bad_mark N P (mark_of N P count c) ≡ None
mark_good N P count c l has few = (mark_again N P count c (mark_of N P count c) l has (record { count_fits = few; widths = within N P c l; spelled = refl })).none

-- ---- lengths
-- a text by the numbers of its fabric: on the base fabric it is short, and on the wide one that is known
short_on : (fabric : Fabric) (N P : ℕ) (c : Shape) (text : ℕ → ℕ → List ℕ) → N ≡ columns fabric → P ≡ registers fabric → IsLawful (columns fabric) (registers fabric) c → (IsLawful 16 8 c → length (text 16 8) < 16777216)
    → (fabric ≡ Fabric.Wide → length (text N P) ≤ 16777216) → length (text N P) ≤ 16777216
short_on Fabric.Base N P c text n p lawful base wide =
    let same : length (text N P) ≡ length (text 16 8) = ap length (ap₂ text n p) in
    omega (arith, same, base lawful)
short_on Fabric.Wide N P c text n p lawful base wide = wide refl

module _ (files : List ℕ → Option (List ℕ)) (name : List ℕ) (target : Target) where
  pub kept_file : (kept : List ℕ) → IsWritten files name target kept → IsKept files name target kept
  kept_file kept k =
      let has = of_fabric (Some files) name target k.N k.P k.conf k.gives in
      let lawful = lawful_on target.fabric target.narrowed has.text k.conf has.is in
      record {
        N = k.N;
        P = k.P;
        conf = k.conf;
        gives = k.gives;
        bytes = compiled_bytes (columns target.fabric) (registers target.fabric) target.narrowed has.text k.conf has.is;
        file = k.file;
        short = short_on target.fabric k.N k.P k.conf (λ n p. bytes_of_words (words_of n p k.conf)) k.gives.columns_are k.gives.registers_are lawful (λ l. file_short k.conf l) k.short;
      }

  pub kept_mark : (rows : List (List ℕ)) (kept : List ℕ) → IsMarkWritten files name target rows kept → IsMarkKept files name target rows kept
  kept_mark rows kept k =
      let has = of_fabric (Some files) name target k.N k.P k.conf k.gives in
      let lawful = lawful_on target.fabric target.narrowed has.text k.conf has.is in
      record {
        N = k.N;
        P = k.P;
        conf = k.conf;
        gives = k.gives;
        few = k.few;
        bytes = bytes_after k.N k.P k.conf rows (compiled_bytes (columns target.fabric) (registers target.fabric) target.narrowed has.text k.conf has.is);
        file = k.file;
        short = short_on target.fabric k.N k.P k.conf (λ n p. mark_after n p 0 k.conf rows) k.gives.columns_are k.gives.registers_are lawful
            (λ l. mark_short (0 + length rows) (conf_after 16 8 k.conf (pieces k.conf rows)) (lawful_after 16 8 k.conf (pieces k.conf rows) l)) k.short;
      }
