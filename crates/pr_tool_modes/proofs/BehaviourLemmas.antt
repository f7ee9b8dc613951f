-- The file that is written of a configuration is read as it, and a run of it writes the same.
use Rattle.std.proofs.Common.{◌≡◌, ◌≤◌, ◌^◌, ◌∙◌, ℕ, Bool, true, false, ◌&&◌, nat_le, nat_lt, List, [], ◌∷◌, length, map, Option, Some, None, refl, sym, ap, ap₂, subst, arith, inl, inr, true≢false}
use Rattle.std.specs.List.{list_all}
use Rattle.pr_base.specs.Fabrics.{columns, registers}
use Rattle.pr_base.specs.declared.fabrics.Fabric.{Fabric}
use Rattle.pr_code.specs.Spelling.{bytes_of_words, words_of, are_widths_within, has_bytes, IsFile}
use Rattle.pr_code.specs.Rules.{bad_word, shape_read}
use Rattle.pr_code.proofs.AgainFiles.{file_again}
use Rattle.pr_compile.specs.Configured.{IsCompiled}
use Rattle.pr_conf.specs.Shape.{Shape, OutputShape}
use Rattle.pr_conf.specs.Rules.{IsLawful, is_lawful_width, is_lawful_output}
use Rattle.pr_edge.specs.Tape.{Appends}
use Rattle.pr_run.specs.Setting.{held_of}
use Rattle.pr_run.specs.Turns.{Going}
use Rattle.pr_run_script.specs.Script.{Held}
use Rattle.pr_run_script.specs.Text.{run_text}
use Rattle.pr_samples.specs.Fed.{Ending}
use Rattle.pr_samples.specs.Stall.{turns_of}
use Rattle.pr_tool_answers.specs.declared.answers.Answer.{Answer}
use Rattle.pr_tool_modes.specs.declared.benches.Bench.{Bench}
use Rattle.pr_tool_modes.specs.declared.targets.Target.{Target}
use Rattle.pr_tool_modes.specs.declared.texts.Form.{Form}
use Rattle.pr_tool_modes.specs.Behaviours.{from_source, IsKept}
use Rattle.pr_tool_modes.specs.Calls.{Call}
use Rattle.pr_tool_modes.specs.Configurations.{columns_of, registers_of, IsLoadable}
use Rattle.pr_tool_modes.specs.Executions.{IsRunVerdict}
use Rattle.pr_tool_modes.specs.Jobs.{Job}
use Rattle.pr_tool_modes.specs.Lines.{HasRunOn, IsWholeRun, MeansLines, NoMore}
use Rattle.pr_tool_modes.specs.Runs.{ends_well}
use Rattle.pr_tool_modes.specs.Samples.{fed_in, pieces, samples_verdict}
use Rattle.pr_tool_modes.specs.Sources.{File, Text, Gives}
use Rattle.pr_tool_modes.specs.Stalls.{IsStallText, HasStall, after_stall}
use Rattle.pr_tool_modes.specs.Texts.{text_in}
use Rattle.pr_tool_modes.proofs.CompileLaws.{is_lawful}
use Rattle.pr_tool_modes.proofs.SourceLemmas.{of_fabric, one_conf, never_source}

-- ---- the file
first_of_three : (a b c : Bool) → (a && b && c) ≡ true → a ≡ true
first_of_three true b c e = refl
first_of_three false b c e = absurd (true≢false (sym e))

second_of_three : (a b c : Bool) → (a && b && c) ≡ true → b ≡ true
second_of_three true true c e = refl
second_of_three true false c e = absurd (true≢false (sym e))
second_of_three false b c e = absurd (true≢false (sym e))

third_of_three : (a b c : Bool) → (a && b && c) ≡ true → c ≡ true
third_of_three true true c e = e
third_of_three true false c e = absurd (true≢false (sym e))
third_of_three false b c e = absurd (true≢false (sym e))

second_of_two : (a b : Bool) → (a && b) ≡ true → b ≡ true
second_of_two true b e = e
second_of_two false b e = absurd (true≢false (sym e))

both : (a b : Bool) → a ≡ true → b ≡ true → (a && b) ≡ true
both true b e f = f
both false b e f = absurd (true≢false (sym e))

weaker : {X : Type 0} (p q : X → Bool) → ((x : X) → p x ≡ true → q x ≡ true) → (xs : List X) → list_all p xs ≡ true → list_all q xs ≡ true
weaker p q more [] e = refl
weaker p q more (x ∷ xs) e = elim (p x) as (λ b. p x ≡ b → list_all q (x ∷ xs) ≡ true) [
  | true ↦ λ is. both (q x) (list_all q xs) (more x is) (weaker p q more xs (second_of_two (p x) (list_all p xs) e))
  | false ↦ λ is. absurd (true≢false (sym (subst (λ (b : Bool). (b && list_all p xs) ≡ true) is e)))
] refl

-- every width of a lawful configuration is one of the newer format
pub within : (N P : ℕ) (c : Shape) → IsLawful N P c → are_widths_within 128 c ≡ true
within N P c lawful =
    both _ _ (weaker is_lawful_width (λ w. nat_le w 128) (λ w e. second_of_two _ (nat_le w 128) e) c.inputs (second_of_three _ _ _ lawful.inputs))
    (weaker (is_lawful_output N P) (λ (o : OutputShape). nat_le o.width 128) (λ o e. second_of_two _ (nat_le o.width 128) (first_of_three (is_lawful_width o.width) _ _ e)) c.outputs
    (third_of_three (nat_lt 0 (length c.outputs)) (nat_le (length c.outputs) 64) (list_all (is_lawful_output N P) c.outputs) lawful.outputs))

-- the file names its fabric
names_columns : (fabric : Fabric) (c : Shape) → columns_of (bytes_of_words (words_of (columns fabric) (registers fabric) c)) ≡ columns fabric
unfolding bytes_of_words
names_columns Fabric.Base c = refl
names_columns Fabric.Wide c = refl

names_registers : (fabric : Fabric) (c : Shape) → registers_of (bytes_of_words (words_of (columns fabric) (registers fabric) c)) ≡ registers fabric
unfolding bytes_of_words
names_registers Fabric.Base c = refl
names_registers Fabric.Wide c = refl

-- it is read as the configuration
loadable : (fabric : Fabric) (c : Shape) → IsLawful (columns fabric) (registers fabric) c → has_bytes c ≡ true → IsLoadable (columns fabric) (registers fabric) c (bytes_of_words (words_of (columns fabric) (registers fabric) c))
unfolding shape_read
loadable fabric c lawful bytes =
    let N = columns fabric in
    let P = registers fabric in
    let text = bytes_of_words (words_of N P c) in
    let file : IsFile N P c text = inr (record { widths = within N P c lawful; spelled = refl }) in
    let again = file_again N P c text lawful bytes file in
    record {
      columns = sym (names_columns fabric c);
      registers = sym (names_registers fabric c);
      good = subst (λ (n : ℕ). bad_word n (registers_of text) text ≡ None) (sym (names_columns fabric c)) (subst (λ (p : ℕ). bad_word N p text ≡ None) (sym (names_registers fabric c)) again.none);
      read = sym again.reads ∙ ap (λ (n : ℕ). shape_read n text) (sym (names_columns fabric c));
      is = file;
    }

pub lawful_on : (fabric : Fabric) (narrowed : Bool) (text : List ℕ) (c : Shape) → IsCompiled (columns fabric) (registers fabric) narrowed text c → IsLawful (columns fabric) (registers fabric) c
lawful_on Fabric.Base narrowed text c is = is_lawful 16 8 narrowed text c (omega arith) (omega arith) (omega arith) (omega arith) is
lawful_on Fabric.Wide narrowed text c is = is_lawful 32 16 narrowed text c (omega arith) (omega arith) (omega arith) (omega arith) is

module _ (files : List ℕ → Option (List ℕ)) (name : List ℕ) (target : Target) (kept : List ℕ) (k : IsKept files name target kept) where
  -- on the numbers of the fabric
  kept_on : Gives (Some files) (File kept) (columns target.fabric) (registers target.fabric) k.conf
  kept_on =
      let has = of_fabric (Some files) name target k.N k.P k.conf k.gives in
      let text = text_in Form.File (columns target.fabric) (registers target.fabric) k.conf in
      let same : text_in Form.File k.N k.P k.conf ≡ text = ap₂ (λ (n p : ℕ). text_in Form.File n p k.conf) k.gives.columns_are k.gives.registers_are in
      record {
        bytes = text;
        file = k.file ∙ ap Some same;
        short = subst (λ (t : List ℕ). length t ≤ 16777216) same k.short;
        loadable = loadable target.fabric k.conf (lawful_on target.fabric target.narrowed has.text k.conf has.is) k.bytes;
      }

  pub kept_gives : Gives (Some files) (File kept) k.N k.P k.conf
  kept_gives =
      subst (λ (n : ℕ). Gives (Some files) (File kept) n k.P k.conf) (sym k.gives.columns_are)
      (subst (λ (p : ℕ). Gives (Some files) (File kept) (columns target.fabric) p k.conf) (sym k.gives.registers_are) kept_on)

  pub kept_verdict : (j : Job) (a : Answer) → IsRunVerdict files (from_source (Text name target) j) a → IsRunVerdict files (from_source (File kept) j) a
  kept_verdict j a (inl refused) = absurd (never_source files (Text name target) a k.N k.P k.conf k.gives refused)
  kept_verdict j a (inr is) = inr (record {
    N = k.N;
    P = k.P;
    conf = k.conf;
    gives = kept_gives;
    last = is.last ∙ ap (λ (c : Shape). after_stall files j.stall (samples_verdict (2 ^ 40) c.inputs (files j.second))) (one_conf files (Text name target) is.N is.P k.N k.P is.conf k.conf is.gives k.gives);
  })

-- ---- runs
-- a stall file has one text, and so its turns are the same
text_once : (files : List ℕ → Option (List ℕ)) (stall : Option (List ℕ)) (s t : List ℕ) → IsStallText (Some files) stall s → IsStallText (Some files) stall t → s ≡ t
text_once files None s t is by = is ∙ sym by
text_once files (Some name) s t is by = let both : Some s ≡ Some t = sym is ∙ by in cc

turns_once : (files : List ℕ → Option (List ℕ)) (stall : Option (List ℕ)) (s t : List Held) → HasStall (Some files) stall s → HasStall (Some files) stall t → s ≡ t
turns_once files stall s t is by = is.are ∙ (ap (λ (x : List ℕ). map held_of (turns_of x)) (text_once files stall is.text by.text is.file by.file) ∙ sym by.are)

-- the same text
abbrev WriteOne : Call → Call → Type 0
WriteOne c d = (text : List ℕ) × Appends c.old c.new text × Appends d.old d.new text

module _ (files : List ℕ → Option (List ℕ)) (name : List ℕ) (target : Target) (kept : List ℕ) (k : IsKept files name target kept) (j : Job) (samples : List ℕ) (c d : Call) where
  abbrev rows_in : List ℕ → List (List ℕ)
  rows_in widths = (fed_in widths samples).samples

  -- what is written, by the configuration's numbers and its turns
  abbrev written_on : ℕ → ℕ → Shape → List Held → List ℕ → Ending → List ℕ
  written_on N P conf turns widths ending = run_text N P j.log conf j.stripes (pieces conf (rows_in widths)) turns (ends_well ending)

  one_text : {N P M Q : ℕ} (ws vs : List ℕ) (e f : Ending) (m : Going N P) (n : Going M Q)
      → HasRunOn files (from_source (Text name target) j) c ws (rows_in ws) (ends_well e) m → HasRunOn files (from_source (File kept) j) d vs (rows_in vs) (ends_well f) n
      → (fed_in ws samples).ending ≡ e → (fed_in vs samples).ending ≡ f → (e ≡ f) × WriteOne c d
  one_text {N} {P} {M} {Q} ws vs e f m n on by es fs =
      let file = kept_gives files name target kept k in
      let one = one_conf files (Text name target) N P k.N k.P on.conf k.conf on.gives k.gives in
      let other = one_conf files (File kept) k.N k.P M Q k.conf by.conf file by.gives in
      let conf = one ∙ other in
      let widths = sym on.inputs ∙ (ap (λ (s : Shape). s.inputs) conf ∙ by.inputs) in
      let turns = turns_once files j.stall on.turns by.turns on.stall by.stall in
      let bytes : file.bytes ≡ by.gives.bytes = (let both : Some file.bytes ≡ Some by.gives.bytes = sym file.file ∙ by.gives.file in cc) in
      let columns = on.gives.columns_are ∙ (sym k.gives.columns_are ∙ (file.loadable.columns ∙ (ap columns_of bytes ∙ sym by.gives.loadable.columns))) in
      let registers = on.gives.registers_are ∙ (sym k.gives.registers_are ∙ (file.loadable.registers ∙ (ap registers_of bytes ∙ sym by.gives.loadable.registers))) in
      let ending : e ≡ f = sym es ∙ (ap (λ (xs : List ℕ). (fed_in xs samples).ending) widths ∙ fs) in
      let same : written_on N P on.conf on.turns ws e ≡ written_on M Q by.conf by.turns vs f =
      ap (λ (x : ℕ). written_on x P on.conf on.turns ws e) columns
      ∙ (ap (λ (x : ℕ). written_on M x on.conf on.turns ws e) registers
      ∙ (ap (λ (x : Shape). written_on M Q x on.turns ws e) conf
      ∙ (ap (λ (x : List Held). written_on M Q by.conf x ws e) turns
      ∙ (ap (λ (x : List ℕ). written_on M Q by.conf by.turns x e) widths
      ∙ ap (λ (x : Ending). written_on M Q by.conf by.turns vs x) ending)))) in
      (ending, (written_on M Q by.conf by.turns vs f, subst (Appends c.old c.new) same on.text, by.text))

  pub same_text : (one other : Bench) (e f : Ending)
      → IsWholeRun (MeansLines files (from_source (Text name target) j)) files (from_source (Text name target) j) samples c one e
      → IsWholeRun NoMore files (from_source (File kept) j) samples d other f → (e ≡ f) × WriteOne c d
  same_text (Bench.Base m) (Bench.Base n) e f on by = one_text on.widths by.widths e f m n on.ran by.ran on.ends by.ends
  same_text (Bench.Base m) (Bench.Wide n) e f on by = one_text on.widths by.widths e f m n on.ran by.ran on.ends by.ends
  same_text (Bench.Wide m) (Bench.Base n) e f on by = one_text on.widths by.widths e f m n on.ran by.ran on.ends by.ends
  same_text (Bench.Wide m) (Bench.Wide n) e f on by = one_text on.widths by.widths e f m n on.ran by.ran on.ends by.ends
  same_text Bench.Nothing other e f on by = absurd on.ran
  same_text one Bench.Nothing e f on by = absurd by.ran
