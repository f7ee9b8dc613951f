-- Samples that a feed gave, and the lines that are made of them.
use Rattle.std.proofs.Common.{◌≡◌, ◌≢◌, ◌+◌, ◌<◌, ◌≤◌, ◌^◌, ℕ, List, [], ◌∷◌, ◌++◌, length, map, reverse, take, None, Some, Option, IfSome, Result, Err, IfErr, inl, inr, refl, sym, ap, ap₂, ◌∙◌, subst, arith}
use Rattle.std.proofs.lemmas.List.{length-append, map-append}
use Rattle.pr_edge.specs.Files.{Told, OfFile, IsMissing, HasReadCause}
use Rattle.pr_flat.specs.declared.equations.Operand.{Operand}
use Rattle.pr_flat.specs.Shape.{EquationShape}
use Rattle.pr_flat.specs.Values.{row_of, rows_of}
use Rattle.pr_lang.specs.declared.trees.Program.{Program}
use Rattle.pr_lang_meaning.specs.Programs.{out}
use Rattle.pr_samples.specs.declared.tails.Tail.{Tail}
use Rattle.pr_samples.specs.declared.feed.Feed.{Feed}
use Rattle.pr_samples.specs.declared.feed.Got.{Got}
use Rattle.pr_samples.specs.Fed.{Fed, Ending, BadSample, Limit, fed_of}
use Rattle.pr_samples.specs.Feed.{name_of, given_of, fed, SameFile, StandsFor, Begins, IsSeen, ReadsOn, IsGiven, Gives}
use Rattle.pr_samples.specs.Got.{given_by}
use Rattle.pr_samples.proofs.SeenLemmas.{begins_itself}
use Rattle.pr_source.specs.declared.evaluator.Evaluator.{Evaluator}
use Rattle.pr_source.specs.Outputs.{given, given_all}
use Rattle.pr_source.specs.Standing.{Stands}
use Rattle.pr_source.proofs.Latest.{rows_of-more}
use Rattle.pr_tool_answers.specs.declared.answers.Answer.{Answer}
use Rattle.pr_tool_modes.specs.Evaluations.{EndsBy, answer_by}
use Rattle.pr_tool_modes.specs.Programs.{inputs_of}
use Rattle.pr_tool_modes.specs.Samples.{fed_at_most, fed_in}
use Rattle.pr_tool_modes.proofs.SampleLemmas.{HasGiven, given_more, done_all, some_file}
use Rattle.pr_lens_signals.specs.Reading.{IsLongFeed}
use Rattle.pr_lens_signals.specs.Signals.{AreFirst}
use Rattle.pr_lens_rtl_text.specs.Limits.{most_text_bytes}
use Rattle.pr_lens_bench.specs.declared.texts.Design.{Design}
use Rattle.pr_lens_bench.specs.declared.trials.NoBench.{NoBench}
use Rattle.pr_lens_bench.specs.declared.trials.NoBench.TheVariants.{Long, Ended}
use Rattle.pr_lens_bench.specs.declared.reading.Lines.{Lines}
use Rattle.pr_lens_bench.specs.Cells.{row_text}
use Rattle.pr_lens_bench.specs.Texts.{before_text, behind_text, bench_on, lines_text}
use Rattle.pr_lens_bench.specs.Reading.{HasLines, HasLongLines, IsCut, IsNotShort, with_lines}
use Rattle.pr_lens_bench.specs.Benches.{IsBench, HasLongStart, HasLongWhole, IsUnbenched, EndsSo}
use Rattle.pr_lens_bench.proofs.CellLemmas.{rows_more}

-- a feed that began as this one has given these samples, the evaluator was given them, and these are their lines
pub record HasMade (told : Told) (equations : List EquationShape) (outputs : List Operand) (widths : List ℕ) (design : Design) (first f : Feed) (v : Evaluator) (text : List ℕ) (count : ℕ) : Type 0 where
  pub samples : List (List ℕ)
  pub reads : ReadsOn told [] first f (λ file. HasGiven first f file samples)
  pub stands : Stands equations widths samples v
  pub many : length (given_all equations outputs widths samples) ≡ length samples
  pub lines : text ≡ lines_text design samples (given_all equations outputs widths samples)
  pub counted : count ≡ length samples

-- ---- before the first sample
any_some : (o : Option (List ℕ)) (P : List ℕ → Type 0) → ((file : List ℕ) → P file) → IfSome o P
any_some None P all = tt
any_some (Some file) P all = all file

any_file : (told : Told) (name : List ℕ) (P : List ℕ → Type 0) → ((file : List ℕ) → P file) → OfFile told name P
any_file None name P all = tt
any_file (Some files) name P all = any_some (files name) P all

pub made_nothing : (told : Told) (equations : List EquationShape) (outputs : List Operand) (widths inputs : List ℕ) (design : Design) (f : Feed) (v : Evaluator) → IsLongFeed inputs f → Stands equations widths [] v → HasMade told equations outputs widths design f f v [] 0
made_nothing told equations outputs widths inputs design f v long stands =
    let begins : (file : List ℕ) → Begins f.tail [] file = λ file. record { rest = file; whole = refl; end = λ ended. (let no : Tail.Open ≡ Tail.Ended = sym long.fresh.bytes.1 ∙ ended in cc) } in
    record {
      samples = [];
      reads = record {
        bytes = [];
        seen = record { count = sym long.fresh.bytes.0; file = any_file told (name_of f) (Begins f.tail []) begins };
        began = λ file begun. begun;
        holds = λ file begun. record { stands = long.fresh.stands file; samples = sym (ap (λ (n : ℕ). take n (fed f file).samples) long.fresh.samples) };
      };
      stands = stands;
      many = refl;
      lines = refl;
      counted = refl;
    }

-- ---- one sample more
pub made_more : (told : Told) (equations : List EquationShape) (outputs : List Operand) (widths : List ℕ) (design : Design) (first f f' : Feed) (v v' : Evaluator) (text text' : List ℕ) (count count' : ℕ) (numbers row : List ℕ)
    → (has : HasMade told equations outputs widths design first f v text count) → SameFile first f' → given_of f' ≡ given_of f + 1
    → ((bytes : List ℕ) → IsSeen told bytes f → ReadsOn told bytes f f' (λ file. StandsFor f file → IsGiven f' (given_of f) numbers file))
    → Stands equations widths (has.samples ++ numbers ∷ []) v' → row ≡ given equations outputs (row_of equations widths (reverse (rows_of equations widths has.samples)) numbers)
    → text' ≡ text ++ row_text design.inputs.items design.outputs.items count numbers row → count' ≡ count + 1 → HasMade told equations outputs widths design first f' v' text' count'
made_more told equations outputs widths design first f f' v v' text text' count count' numbers row has same given_one next stands is line one =
    let on = next has.reads.bytes has.reads.seen in
    let rows = rows_of equations widths has.samples in
    let last = row_of equations widths (reverse rows) numbers in
    let results = given_all equations outputs widths has.samples in
    let all : given_all equations outputs widths (has.samples ++ numbers ∷ []) ≡ results ++ row ∷ [] =
    ap (map (given equations outputs)) (rows_of-more equations widths has.samples numbers) ∙ (map-append (given equations outputs) rows (last ∷ []) ∙ ap (λ (r : List ℕ). results ++ r ∷ []) (sym is)) in
    let counted : count ≡ 0 + length has.samples = omega (arith, has.counted) in
    record {
      samples = has.samples ++ numbers ∷ [];
      reads = record {
        bytes = on.bytes;
        seen = on.seen;
        began = λ file begins. has.reads.began file (on.began file begins);
        holds = λ file begins.
            (let before = has.reads.holds file (on.began file begins) in
            given_more first f f' file has.samples numbers same given_one before (on.holds file begins before.stands));
      };
      stands = stands;
      many = omega (arith, ap length all, length-append results (row ∷ []), length-append has.samples (numbers ∷ []), has.many);
      lines = line
          ∙ ap (λ (t : List ℕ). t ++ row_text design.inputs.items design.outputs.items count numbers row) has.lines
          ∙ ap (λ (n : ℕ). lines_text design has.samples results ++ row_text design.inputs.items design.outputs.items n numbers row) counted
          ∙ sym (rows_more design.inputs.items design.outputs.items 0 has.samples results numbers row has.many)
          ∙ ap (λ (rs : List (List ℕ)). lines_text design (has.samples ++ numbers ∷ []) rs) (sym all);
      counted = omega (arith, one, has.counted, length-append has.samples (numbers ∷ []));
    }

-- ---- no sample more
module _ (told : Told) (program : Program) (equations : List EquationShape) (outputs : List Operand) (widths : List ℕ) (design : Design) (first f : Feed) (v : Evaluator) (text : List ℕ) (count : ℕ)
    (has : HasMade told equations outputs widths design first f v text count) (means : given_all equations outputs widths has.samples ≡ out program has.samples) where
  lines_mean : text ≡ lines_text design has.samples (out program has.samples)
  lines_mean = has.lines ∙ ap (lines_text design has.samples) means

  pub made_all : (f' : Feed) (numbers : List ℕ) (end : Got) → SameFile first f' → given_of f' ≡ given_of f + given_by end
      → ((bytes : List ℕ) → IsSeen told bytes f → ReadsOn told bytes f f' (λ file. StandsFor f file → Gives end (given_of f) f' numbers file)) → end ≢ Got.Sample → end ≢ Got.ReadFault
      → HasLines told program design first f' text count end
  made_all f' numbers end same given_one next other no_fault = record {
    samples = has.samples;
    reads = done_all told first f f' has.samples numbers end has.reads same given_one next other no_fault;
    lines = lines_mean;
    counted = has.counted;
  }

  pub made_long : (IsMissing told (name_of f) → ⊥) → most_text_bytes < length text → HasLongLines told program design first f
  made_long there long = record {
    samples = has.samples;
    reads = record {
      bytes = has.reads.bytes;
      seen = has.reads.seen;
      began = has.reads.began;
      holds = λ file begins. (given_of f, (has.reads.holds file begins).samples);
    };
    there = there;
    long = subst (λ (t : List ℕ). most_text_bytes < length t) lines_mean long;
  }

-- ---- the file
long_fed : (widths : List ℕ) (f : Feed) (file : List ℕ) → IsLongFeed widths f → fed f file ≡ fed_in widths file
unfolding fed_at_most
long_fed widths f file is =
    ap (λ (ws : List ℕ). fed_of ws f.limit f.most file) is.inputs ∙ (ap (λ (n : ℕ). fed_of widths n f.most file) is.limit ∙ ap (λ (n : ℕ). fed_of widths (2 ^ 44) n file) is.most)

module _ (told : Told) (name : List ℕ) (program : Program) (design : Design) (first now : Feed) (long : IsLongFeed (inputs_of program) first) (named : name_of now ≡ name) where
  first_is : (samples : List (List ℕ)) (file : List ℕ) → ((k : ℕ) × (samples ≡ take k (fed first file).samples)) → AreFirst (inputs_of program) samples file
  first_is samples file front = (front.0, front.1 ∙ ap (λ (k : Fed). take front.0 k.samples) (long_fed (inputs_of program) first file long))

  pub long_start : HasLongLines told program design first now → HasLongStart told name program design
  long_start has =
      let read = some_file told name now.tail has.reads.bytes (rw named at has.reads.seen.file) (λ missing. has.there (subst (λ (n : List ℕ). IsMissing told n) (sym named) missing)) in
      record {
        file = read.file;
        is = read.text;
        samples = has.samples;
        first = first_is has.samples read.file (has.reads.holds read.file read.begins);
        long = has.long;
      }

  module _ (lines : Lines) (has : HasLines told program design first now lines.text.items lines.count lines.end) (there : IsMissing told name → ⊥) where
    bench_is : with_lines design lines ≡ bench_on program design has.samples
    bench_is = ap₂ (λ (n : ℕ) (t : List ℕ). before_text design n ++ t ++ behind_text design) has.counted has.lines

    pub made_bench : (text : List ℕ) → lines.end ≡ Got.End → text ≡ with_lines design lines → length text ≤ most_text_bytes → IsBench told name program design text
    made_bench text end is short =
        let read = some_file told name now.tail has.reads.bytes (rw named at has.reads.seen.file) there in
        let all = has.reads.holds read.file read.begins in
        let same = long_fed (inputs_of program) first read.file long in
        record {
          file = read.file;
          is = read.text;
          ends = sym (ap (λ (k : Fed). k.ending) same) ∙ subst (λ (g : Got). EndsBy g (fed first read.file).ending) end all.ends;
          samples = has.samples;
          all = all.all ∙ ap (λ (k : Fed). k.samples) same;
          bench = is ∙ bench_is;
          short = short;
        }

    -- the whole text has too many bytes
    pub whole_long : lines.end ≡ Got.End → most_text_bytes < length (with_lines design lines) → HasLongWhole told name program design
    whole_long end more =
        let read = some_file told name now.tail has.reads.bytes (rw named at has.reads.seen.file) there in
        let all = has.reads.holds read.file read.begins in
        let same = long_fed (inputs_of program) first read.file long in
        record {
          file = read.file;
          is = read.text;
          ends = sym (ap (λ (k : Fed). k.ending) same) ∙ subst (λ (g : Got). EndsBy g (fed first read.file).ending) end all.ends;
          samples = has.samples;
          all = all.all ∙ ap (λ (k : Fed). k.samples) same;
          long = subst (λ (t : List ℕ). most_text_bytes < length t) bench_is more;
        }

  module _ (rb rn : ℕ) where
    ends_so : (text : List ℕ) (count : ℕ) (end : Got) (ending : Ending) → HasLines told program design first now text count end → length text ≤ most_text_bytes → (IsMissing told name → ⊥) → ((e : Ending) → EndsBy end e → e ≡ ending)
        → EndsSo told name program design ending
    ends_so text count end ending has short there by =
        let read = some_file told name now.tail has.reads.bytes (rw named at has.reads.seen.file) there in
        let all = has.reads.holds read.file read.begins in
        let same = long_fed (inputs_of program) first read.file long in
        record {
          file = read.file;
          is = read.text;
          ends = sym (ap (λ (k : Fed). k.ending) same) ∙ by _ all.ends;
          samples = has.samples;
          all = all.all ∙ ap (λ (k : Fed). k.samples) same;
          short = subst (λ (t : List ℕ). length t ≤ most_text_bytes) has.lines short;
        }

    -- the samples end otherwise
    pub unbenched : (text : List ℕ) (count : ℕ) (end : Got) → (end ≢ Got.ReadFault → HasLines told program design first now text count end) → length text ≤ most_text_bytes → (end ≢ Got.ReadFault → IsMissing told name → ⊥)
        → (end ≡ Got.ReadFault → HasReadCause told name rb rn) → end ≢ Got.End → IsUnbenched told name program design rb rn (Ended (answer_by end))
    unbenched text count Got.Sample has short there cause other = let h = has (λ e. cc) in absurd (h.reads.holds h.reads.bytes (begins_itself now.tail h.reads.bytes)).ends
    unbenched text count Got.End has short there cause other = absurd (other refl)
    unbenched text count (Got.BadSample line) has short there cause other = ends_so text count (Got.BadSample line) (BadSample line) (has (λ e. cc)) short (there (λ e. cc)) (λ e h. h)
    unbenched text count Got.ReadFault has short there cause other = cause refl
    unbenched text count (Got.Limit which) has short there cause other = ends_so text count (Got.Limit which) (Limit which) (has (λ e. cc)) short (there (λ e. cc)) (λ e h. h)

    -- the lines have too many bytes, or memory wants
    pub unbenched_cut : (s : NoBench) → IsCut told program design first now s → IsUnbenched told name program design rb rn s
    unbenched_cut Long has = inl (long_start has)
    unbenched_cut (Ended Answer.Memory) has = tt
    unbenched_cut (Ended answer) has = absurd has

-- ---- want of memory
pub cut_memory : {T : Type 0} (told : Told) (program : Program) (design : Design) (first now : Feed) (r : Result T NoBench) → (y : NoBench) × (r ≡ Err y) × (y ≡ Ended Answer.Memory) → IfErr r (IsCut told program design first now)
cut_memory told program design first now r p = rw (p.1, p.2) tt

pub unbenched_memory : {T : Type 0} (told : Told) (name : List ℕ) (program : Program) (design : Design) (rb rn : ℕ) (r : Result T NoBench) → (y : NoBench) × (r ≡ Err y) × (y ≡ Ended Answer.Memory) → IfErr r (IsUnbenched told name program design rb rn)
unbenched_memory told name program design rb rn r p = rw (p.1, p.2) tt

pub not_short_memory : {T : Type 0} (design : Design) (lines : Lines) (r : Result T NoBench) → (y : NoBench) × (r ≡ Err y) × (y ≡ Ended Answer.Memory) → IfErr r (IsNotShort design lines)
not_short_memory design lines r p = rw (p.1, p.2) tt

pub not_short_unbenched : (told : Told) (name : List ℕ) (program : Program) (design : Design) (lines : Lines) (rb rn : ℕ) → (most_text_bytes < length (with_lines design lines) → HasLongWhole told name program design) → (s : NoBench) → IsNotShort design lines s
    → IsUnbenched told name program design rb rn s
not_short_unbenched told name program design lines rb rn long Long is = inr (long is)
not_short_unbenched told name program design lines rb rn long (Ended Answer.Memory) is = tt
not_short_unbenched told name program design lines rb rn long (Ended answer) is = absurd is

-- the fault with which a step ends the whole
pub unbenched_by : {T : Type 0} (told : Told) (name : List ℕ) (program : Program) (design : Design) (rb rn : ℕ) (r : Result T NoBench) (s : NoBench) → (y : NoBench) × (r ≡ Err y) × (y ≡ s) → IsUnbenched told name program design rb rn s
    → IfErr r (IsUnbenched told name program design rb rn)
unbenched_by told name program design rb rn r s p is = rw (p.1, p.2) is
