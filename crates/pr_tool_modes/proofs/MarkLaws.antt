-- The checkpoint that is written is read as it, and a chain of checkpoints is one.
use Rattle.std.proofs.Common.{◌≡◌, ◌≤◌, ◌+◌, ◌^◌, ◌∙◌, ◌++◌, ℕ, true, List, length, map, Option, Some, None, refl, sym, ap, ap₂, subst, arith}
use Rattle.std.proofs.lemmas.List.{map-append, length-append}
use Rattle.pr_base.specs.Fabrics.{columns, registers}
use Rattle.pr_base.specs.Rows.{row_bytes}
use Rattle.pr_base.specs.declared.fabrics.Fabric.{Fabric}
use Rattle.pr_code.specs.Marks.{IsMark, mark_of, bad_mark, shape_marked}
use Rattle.pr_code.specs.Spelling.{bytes_of_words, has_bytes}
use Rattle.pr_code.proofs.AgainMarks.{mark_again}
use Rattle.pr_code.proofs.MarkLemmas.{marked_shape}
use Rattle.pr_conf.specs.Shape.{Shape}
use Rattle.pr_conf.specs.Rules.{IsLawful}
use Rattle.pr_conf.specs.After.{conf_after}
use Rattle.pr_conf.proofs.AfterLaws.{lawful_after, inputs_after, further_after}
use Rattle.pr_tool_modes.specs.declared.targets.Target.{Target}
use Rattle.pr_tool_modes.specs.Checkpoints.{file_in, IsResumable}
use Rattle.pr_tool_modes.specs.Configurations.{columns_of, registers_of}
use Rattle.pr_tool_modes.specs.Folds.{mark_after}
use Rattle.pr_tool_modes.specs.Resumptions.{IsMarkKept}
use Rattle.pr_tool_modes.specs.Samples.{pieces}
use Rattle.pr_tool_modes.specs.Sources.{Mark, Gives}
use Rattle.pr_tool_modes.proofs.BehaviourLemmas.{within, lawful_on}
use Rattle.pr_tool_modes.proofs.SourceLemmas.{of_fabric}

-- ---- the file
-- it names its fabric
names_columns : (fabric : Fabric) (count : ℕ) (c : Shape) → columns_of (file_in (mark_of (columns fabric) (registers fabric) count c)) ≡ columns fabric
unfolding bytes_of_words
names_columns Fabric.Base count c = refl
names_columns Fabric.Wide count c = refl

names_registers : (fabric : Fabric) (count : ℕ) (c : Shape) → registers_of (file_in (mark_of (columns fabric) (registers fabric) count c)) ≡ registers fabric
unfolding bytes_of_words
names_registers Fabric.Base count c = refl
names_registers Fabric.Wide count c = refl

-- it is read as the count and the configuration
resumable : (fabric : Fabric) (count : ℕ) (c : Shape) → IsLawful (columns fabric) (registers fabric) c → has_bytes c ≡ true → count ≤ 2 ^ 40
    → IsResumable (columns fabric) (registers fabric) count c (mark_of (columns fabric) (registers fabric) count c)
resumable fabric count c lawful bytes few =
    let N = columns fabric in
    let P = registers fabric in
    let text = mark_of N P count c in
    let mark : IsMark N P count c text = record { count_fits = few; widths = within N P c lawful; spelled = refl } in
    let again = mark_again N P count c text lawful bytes mark in
    record {
      columns = sym (names_columns fabric count c);
      registers = sym (names_registers fabric count c);
      good = subst (λ (n : ℕ). bad_mark n (registers_of (file_in text)) text ≡ None) (sym (names_columns fabric count c)) (subst (λ (p : ℕ). bad_mark N p text ≡ None) (sym (names_registers fabric count c)) again.none);
      counted = sym again.counts;
      read = sym again.reads ∙ (marked_shape N text ∙ ap (λ (n : ℕ). shape_marked n text) (sym (names_columns fabric count c)));
      is = mark;
    }

module _ (files : List ℕ → Option (List ℕ)) (name : List ℕ) (target : Target) (rows : List (List ℕ)) (kept : List ℕ) (k : IsMarkKept files name target rows kept) where
  abbrev after : ℕ → ℕ → Shape
  after n p = conf_after n p k.conf (pieces k.conf rows)

  -- on the numbers of the fabric
  kept_on : Gives (Some files) (Mark kept (length rows)) (columns target.fabric) (registers target.fabric) (after (columns target.fabric) (registers target.fabric))
  kept_on =
      let N = columns target.fabric in
      let P = registers target.fabric in
      let has = of_fabric (Some files) name target k.N k.P k.conf k.gives in
      let same : mark_after k.N k.P 0 k.conf rows ≡ mark_of N P (length rows) (after N P) = ap₂ (λ (n p : ℕ). mark_after n p 0 k.conf rows) k.gives.columns_are k.gives.registers_are ∙ ap (λ (n : ℕ). mark_of N P n (after N P)) (let sum : 0 + length rows ≡ length rows = omega arith in sum) in
      let bytes : has_bytes (after N P) ≡ true = ap₂ (λ (n p : ℕ). has_bytes (after n p)) (sym k.gives.columns_are) (sym k.gives.registers_are) ∙ k.bytes in
      record {
        bytes = mark_of N P (length rows) (after N P);
        file = k.file ∙ ap Some same;
        short = subst (λ (t : List ℕ). length t ≤ 16777216) same k.short;
        resumable = resumable target.fabric (length rows) (after N P) (lawful_after N P k.conf (pieces k.conf rows) (lawful_on target.fabric target.narrowed has.text k.conf has.is)) bytes k.few;
      }

  pub kept_mark : Gives (Some files) (Mark kept (length rows)) k.N k.P (after k.N k.P)
  kept_mark =
      subst (λ (n : ℕ). Gives (Some files) (Mark kept (length rows)) n k.P (after n k.P)) (sym k.gives.columns_are)
      (subst (λ (p : ℕ). Gives (Some files) (Mark kept (length rows)) (columns target.fabric) p (after (columns target.fabric) p)) (sym k.gives.registers_are) kept_on)

-- ---- chains
pub chained : (N P before : ℕ) (c : Shape) (xs ys : List (List ℕ)) → mark_after N P (before + length xs) (conf_after N P c (pieces c xs)) ys ≡ mark_after N P before c (xs ++ ys)
chained N P before c xs ys =
    let size = length-append xs ys in
    let sum : before + length xs + length ys ≡ before + length (xs ++ ys) = omega (arith, size) in
    let further : pieces (conf_after N P c (pieces c xs)) ys ≡ pieces c ys = ap (λ (ws : List ℕ). map (row_bytes ws) ys) (inputs_after N P c (pieces c xs)) in
    let parts : pieces c (xs ++ ys) ≡ pieces c xs ++ pieces c ys = map-append (row_bytes c.inputs) xs ys in
    ap₂ (λ (n : ℕ) (d : Shape). mark_of N P n d) sum
    (ap (λ (zs : List (List ℕ)). conf_after N P (conf_after N P c (pieces c xs)) zs) further
    ∙ (further_after N P c (pieces c xs) (pieces c ys)
    ∙ ap (λ (zs : List (List ℕ)). conf_after N P c zs) (sym parts)))
