-- Samples that a feed gave, and the rows that are put of them.
use Rattle.std.proofs.Common.{◌≡◌, ◌≢◌, ◌≤◌, ◌+◌, ◌-◌, ◌^◌, ℕ, List, [], ◌∷◌, ◌++◌, drop, length, length-drop, map, reverse, take, None, Some, Option, IfSome, append-nil, refl, sym, ap, ◌∙◌, subst, arith}
use Rattle.std.proofs.lemmas.List.{map-append, take_rest}
use Rattle.pr_edge.specs.Files.{Told, OfFile}
use Rattle.pr_edge.specs.Tape.{Tape, Appends, AppendsFront}
use Rattle.pr_edge.proofs.Appending.{Appends-append}
use Rattle.pr_flat.specs.declared.equations.Operand.{Operand}
use Rattle.pr_flat.specs.Shape.{EquationShape, shapes_of}
use Rattle.pr_flat.specs.Values.{row_of, rows_of}
use Rattle.pr_samples.specs.declared.tails.Tail.{Tail}
use Rattle.pr_samples.specs.declared.feed.Feed.{Feed}
use Rattle.pr_samples.specs.declared.feed.Got.{Got}
use Rattle.pr_samples.specs.Feed.{name_of, given_of, fed, SameFile, StandsFor, Begins, IsSeen, ReadsOn, IsGiven, Gives}
use Rattle.pr_samples.specs.Fed.{fed_of}
use Rattle.pr_samples.specs.Got.{given_by}
use Rattle.pr_samples.proofs.ResultLemmas.{put_front}
use Rattle.pr_source.specs.declared.evaluator.Evaluator.{Evaluator}
use Rattle.pr_source.specs.Outputs.{given, given_all}
use Rattle.pr_source.specs.Standing.{Stands}
use Rattle.pr_source.proofs.Latest.{rows_of-more}
use Rattle.pr_tool_modes.specs.Samples.{fed_at_most, fed_in}
use Rattle.pr_tool_modes.proofs.SampleLemmas.{HasGiven, given_more, done_all}
use Rattle.pr_lens_tracks.specs.declared.looks.Form.{Form}
use Rattle.pr_lens_tracks.specs.declared.looks.Track.{Track}
use Rattle.pr_lens_tracks.specs.Texts.{rows_text, text_behind}
use Rattle.pr_lens_tracks.proofs.RowLemmas.{rows-more}
use Rattle.pr_lens_signals.specs.declared.probing.Showing.{Showing}
use Rattle.pr_lens_signals.specs.Reading.{AreFirst, HasBegun, HasEnded, IsLongFeed, cut_rows, front_of, instance_rows}

-- a feed that began as this one has given these samples, and the evaluator was given them
pub record HasTaken (told : Told) (equations : List EquationShape) (widths : List ℕ) (first f : Feed) (v : Evaluator) : Type 0 where
  pub samples : List (List ℕ)
  pub reads : ReadsOn told [] first f (λ file. HasGiven first f file samples)
  pub stands : Stands equations widths samples v

abbrev pub rows_shown : ℕ → List EquationShape → List Operand → List ℕ → List (List ℕ) → List (List ℕ)
rows_shown front equations outputs widths samples = cut_rows front (given_all equations outputs widths samples)

-- and their rows are put
pub record HasPut (told : Told) (equations : List EquationShape) (outputs : List Operand) (widths : List ℕ) (front : ℕ) (first f : Feed) (v : Evaluator) (Put : List (List ℕ) → Type 0) : Type 0 where
  pub taken : HasTaken told equations widths first f v
  pub text : Put (rows_shown front equations outputs widths taken.samples)

-- ---- a file of any length
pub long-fed : (widths : List ℕ) (f : Feed) (file : List ℕ) → IsLongFeed widths f → fed f file ≡ fed_in widths file
unfolding fed_at_most
long-fed widths f file is =
    ap (λ (ws : List ℕ). fed_of ws f.limit f.most file) is.inputs ∙ (ap (λ (n : ℕ). fed_of widths n f.most file) is.limit ∙ ap (λ (n : ℕ). fed_of widths (2 ^ 44) n file) is.most)

-- ---- before the first sample
any_some : (o : Option (List ℕ)) (P : List ℕ → Type 0) → ((file : List ℕ) → P file) → IfSome o P
any_some None P all = tt
any_some (Some file) P all = all file

any_file : (told : Told) (name : List ℕ) (P : List ℕ → Type 0) → ((file : List ℕ) → P file) → OfFile told name P
any_file None name P all = tt
any_file (Some files) name P all = any_some (files name) P all

-- no sample was given
pub reads_none : (told : Told) (inputs : List ℕ) (f : Feed) → IsLongFeed inputs f → ReadsOn told [] f f (λ file. HasGiven f f file [])
reads_none told inputs f long =
    let begins : (file : List ℕ) → Begins f.tail [] file = λ file. record { rest = file; whole = refl; end = λ ended. (let no : Tail.Open ≡ Tail.Ended = sym long.fresh.bytes.1 ∙ ended in cc) } in
    record {
      bytes = [];
      seen = record { count = sym long.fresh.bytes.0; file = any_file told (name_of f) (Begins f.tail []) begins };
      began = λ file begun. begun;
      holds = λ file begun. record { stands = long.fresh.stands file; samples = sym (ap (λ (n : ℕ). take n (fed f file).samples) long.fresh.samples) };
    }

-- what was given are first samples
pub reads_first : (told : Told) (first f : Feed) (samples : List (List ℕ)) → ReadsOn told [] first f (λ file. HasGiven first f file samples) → ReadsOn told [] first f (λ file. AreFirst first file samples)
reads_first told first f samples reads = record {
  bytes = reads.bytes;
  seen = reads.seen;
  began = reads.began;
  holds = λ file begins. (given_of f, (reads.holds file begins).samples);
}

pub put_nothing : (told : Told) (equations : List EquationShape) (outputs : List Operand) (widths inputs : List ℕ) (front : ℕ) (f : Feed) (v : Evaluator) (Put : List (List ℕ) → Type 0) → IsLongFeed inputs f → Stands equations widths [] v → Put []
    → HasPut told equations outputs widths front f f v Put
put_nothing told equations outputs widths inputs front f v Put long stands none =
    record { taken = record { samples = []; reads = reads_none told inputs f long; stands = stands }; text = none }

pub begun_nothing : (told : Told) (s : Showing) (inputs : List ℕ) (f : Feed) (Put : List (List ℕ) → Type 0) → IsLongFeed inputs f → Put (instance_rows s []) → HasBegun told s f f Put
begun_nothing told s inputs f Put long none =
    record { samples = []; lawful = λ n d low. absurd (omega (arith, low)); reads = reads_first told f f [] (reads_none told inputs f long); text = none }

-- ---- one sample more
pub reads_more : (told : Told) (first f f' : Feed) (samples : List (List ℕ)) (numbers : List ℕ) → ReadsOn told [] first f (λ file. HasGiven first f file samples) → SameFile first f' → given_of f' ≡ given_of f + 1
    → ((bytes : List ℕ) → IsSeen told bytes f → ReadsOn told bytes f f' (λ file. StandsFor f file → IsGiven f' (given_of f) numbers file)) → ReadsOn told [] first f' (λ file. HasGiven first f' file (samples ++ numbers ∷ []))
reads_more told first f f' samples numbers reads same count next =
    let on = next reads.bytes reads.seen in
    record {
      bytes = on.bytes;
      seen = on.seen;
      began = λ file begins. reads.began file (on.began file begins);
      holds = λ file begins.
          (let before = reads.holds file (on.began file begins) in
          given_more first f f' file samples numbers same count before (on.holds file begins before.stands));
    }

-- the row of a sample stands behind those before
pub given_all-more : (equations : List EquationShape) (outputs : List Operand) (widths : List ℕ) (samples : List (List ℕ)) (numbers row : List ℕ) → row ≡ given equations outputs (row_of equations widths (reverse (rows_of equations widths samples)) numbers)
    → given_all equations outputs widths (samples ++ numbers ∷ []) ≡ given_all equations outputs widths samples ++ row ∷ []
given_all-more equations outputs widths samples numbers row is =
    let rows = rows_of equations widths samples in
    let last = row_of equations widths (reverse rows) numbers in
    ap (map (given equations outputs)) (rows_of-more equations widths samples numbers)
    ∙ (map-append (given equations outputs) rows (last ∷ []) ∙ ap (λ (r : List ℕ). map (given equations outputs) rows ++ r ∷ []) (sym is))

shown-more : (front : ℕ) (equations : List EquationShape) (outputs : List Operand) (widths : List ℕ) (samples : List (List ℕ)) (numbers row : List ℕ) → row ≡ given equations outputs (row_of equations widths (reverse (rows_of equations widths samples)) numbers)
    → rows_shown front equations outputs widths (samples ++ numbers ∷ []) ≡ rows_shown front equations outputs widths samples ++ drop front row ∷ []
shown-more front equations outputs widths samples numbers row is =
    ap (cut_rows front) (given_all-more equations outputs widths samples numbers row is) ∙ map-append (drop front) (given_all equations outputs widths samples) (row ∷ [])

pub put_more : (told : Told) (equations : List EquationShape) (outputs : List Operand) (widths : List ℕ) (front : ℕ) (first f f' : Feed) (v v' : Evaluator) (numbers row : List ℕ) (Put Put' : List (List ℕ) → Type 0)
    → (has : HasPut told equations outputs widths front first f v Put) → SameFile first f' → given_of f' ≡ given_of f + 1
    → ((bytes : List ℕ) → IsSeen told bytes f → ReadsOn told bytes f f' (λ file. StandsFor f file → IsGiven f' (given_of f) numbers file))
    → Stands equations widths (has.taken.samples ++ numbers ∷ []) v' → row ≡ given equations outputs (row_of equations widths (reverse (rows_of equations widths has.taken.samples)) numbers)
    → (Put (rows_shown front equations outputs widths has.taken.samples) → Put' (rows_shown front equations outputs widths has.taken.samples ++ drop front row ∷ [])) → HasPut told equations outputs widths front first f' v' Put'
put_more told equations outputs widths front first f f' v v' numbers row Put Put' has same count next stands is put =
    let taken = has.taken in
    record {
      taken = record {
        samples = taken.samples ++ numbers ∷ [];
        reads = reads_more told first f f' taken.samples numbers taken.reads same count next;
        stands = stands;
      };
      text = subst Put' (sym (shown-more front equations outputs widths taken.samples numbers row is)) (put has.text);
    }

-- a row without its front
pub row-rest : (row : List ℕ) (k front : ℕ) → k ≡ front → take (length row - k) (drop k row) ≡ drop front row
row-rest row k front is = take_rest row k ∙ ap (λ (n : ℕ). drop n row) is

pub rest-long : (row : List ℕ) (k front all instances : ℕ) → length row ≡ all → k ≡ all - instances → instances ≤ all → length (take (length row - k) (drop k row)) ≡ instances
rest-long row k front all instances long is fits =
    let some : length (drop k row) ≡ length row - k = length-drop k row in
    ap length (take_rest row k) ∙ omega (arith, some, long, is, fits)

-- fewer facts of what is put
pub put-less : (told : Told) (equations : List EquationShape) (outputs : List Operand) (widths : List ℕ) (front : ℕ) (first f : Feed) (v : Evaluator) (Put Put' : List (List ℕ) → Type 0)
    → HasPut told equations outputs widths front first f v Put → ((rows : List (List ℕ)) → Put rows → Put' rows) → HasPut told equations outputs widths front first f v Put'
put-less told equations outputs widths front first f v Put Put' has less = record { taken = has.taken; text = less (rows_shown front equations outputs widths has.taken.samples) has.text }

-- ---- no sample more
module _ (told : Told) (s : Showing) (first f : Feed) (v : Evaluator) (Put : List (List ℕ) → Type 0)
    (has : HasPut told (shapes_of s.probed.flat.equations.items) s.probed.flat.outputs.items s.widths (front_of s) first f v Put) where
  -- the feed answered with the end of the samples
  pub put_ended : (f' : Feed) (numbers : List ℕ) (end : Got) → SameFile first f' → given_of f' ≡ given_of f + given_by end
      → ((bytes : List ℕ) → IsSeen told bytes f → ReadsOn told bytes f f' (λ file. StandsFor f file → Gives end (given_of f) f' numbers file)) → end ≢ Got.Sample → end ≢ Got.ReadFault → HasEnded told s first f' end Put
  put_ended f' numbers end same count next other no_fault = record {
    samples = has.taken.samples;
    lawful = has.taken.stands.lawful;
    reads = done_all told first f f' has.taken.samples numbers end has.taken.reads same count next other no_fault;
    text = has.text;
  }

  -- the feed was asked in vain
  pub put_faulted : (f' : Feed) (Holds : List ℕ → Type 0) → ((bytes : List ℕ) → IsSeen told bytes f → ReadsOn told bytes f f' Holds) → HasBegun told s first f' Put
  put_faulted f' Holds next =
      let on = next has.taken.reads.bytes has.taken.reads.seen in
      record {
        samples = has.taken.samples;
        lawful = has.taken.stands.lawful;
        reads = record {
          bytes = on.bytes;
          seen = on.seen;
          began = λ file begins. has.taken.reads.began file (on.began file begins);
          holds = λ file begins. (given_of f, (has.taken.reads.holds file (on.began file begins)).samples);
        };
        text = has.text;
      }

  -- the last line was not written whole
  pub put_broken : HasBegun told s first f Put
  put_broken = record {
    samples = has.taken.samples;
    lawful = has.taken.stands.lawful;
    reads = reads_first told first f has.taken.samples has.taken.reads;
    text = has.text;
  }

-- ---- first bytes of two pieces
pub front_more : (old now new : Tape) (text line : List ℕ) → Appends old now text → AppendsFront now new line → AppendsFront old new (text ++ line)
front_more old now new text line done front =
    put_front old now new line [] (text ++ line) (record { written = text; done = done; whole = ap (λ (xs : List ℕ). text ++ xs) (append-nil line) }) front

-- ---- one row more of a text
module _ (form form' : Form) (tracks tracks' : List Track) (rows : List (List ℕ)) (row row' : List ℕ) (forms : form' ≡ form) (same : tracks' ≡ tracks) (is : row' ≡ row) where
  text-same : text_behind form' tracks' rows row' ≡ text_behind form tracks rows row
  text-same =
      ap (λ (f : Form). text_behind f tracks' rows row') forms ∙ (ap (λ (ts : List Track). text_behind form ts rows row') same ∙ ap (λ (r : List ℕ). text_behind form tracks rows r) is)

  pub row-appended : (old now new : Tape) → Appends old now (rows_text form tracks rows) → Appends now new (text_behind form' tracks' rows row') → Appends old new (rows_text form tracks (rows ++ row ∷ []))
  row-appended old now new done more =
      subst (λ (t : List ℕ). Appends old new t) (sym (rows-more form tracks rows row))
      (Appends-append old now new (rows_text form tracks rows) (text_behind form tracks rows row) done (subst (λ (t : List ℕ). Appends now new t) text-same more))

  pub row-front : (old now new : Tape) → Appends old now (rows_text form tracks rows) → AppendsFront now new (text_behind form' tracks' rows row') → AppendsFront old new (rows_text form tracks (rows ++ row ∷ []))
  row-front old now new done more =
      subst (λ (t : List ℕ). AppendsFront old new t) (sym (rows-more form tracks rows row))
      (front_more old now new (rows_text form tracks rows) (text_behind form tracks rows row) done (subst (λ (t : List ℕ). AppendsFront now new t) text-same more))
