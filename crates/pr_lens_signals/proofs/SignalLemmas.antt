-- What is written of a program that shows its instances, as the streams of a program's names.
use Rattle.std.proofs.Common.{◌≡◌, ◌≢◌, ◌+◌, ◌≤◌, ◌&&◌, ℕ, List, [], ◌∷◌, ◌++◌, drop, length, map, take, None, Some, refl, sym, ap, ap₂, ◌∙◌, subst, arith, inl, inr}
use Rattle.std.specs.List.{range_with_len}
use Rattle.std.proofs.lemmas.List.{length-map, map-append}
use Rattle.std.proofs.lemmas.Option.{get_or_from_slice_get, slice_get_within}
use Rattle.std.proofs.lemmas.Simd.{zip2_of_maps}
use Rattle.std.proofs.Math.Seq.{drop-append_seam}
use Rattle.pr_edge.specs.Files.{Told, IsMissing, HasReadCause}
use Rattle.pr_edge.specs.Tape.{Tape, Appends, AppendsFront}
use Rattle.pr_edge.proofs.Appending.{Appends-append}
use Rattle.pr_flat.specs.declared.equations.Operand.{Operand}
use Rattle.pr_flat.specs.Forms.{Stream}
use Rattle.pr_flat.specs.Shape.{EquationShape, shapes_of}
use Rattle.pr_flat.specs.Values.{input_widths}
use Rattle.pr_flat.specs.Widths.{AreWidths}
use Rattle.pr_base.specs.Rows.{IsRow}
use Rattle.pr_lang.specs.declared.trees.Item.{Item}
use Rattle.pr_lang.specs.declared.trees.Program.{Program}
use Rattle.pr_expand_spec.specs.Programs.{equations_of}
use Rattle.pr_expand_correct.specs.Results.{AreSamples}
use Rattle.pr_scope.specs.Walk.{inputs_after, items_walk, offence, start}
use Rattle.pr_scope_facts.proofs.Inputs.{inputs-of-equations}
use Rattle.pr_source.specs.Outputs.{given_all}
use Rattle.pr_probe.specs.Instances.{instances_of}
use Rattle.pr_probe.specs.Probes.{numbers_at}
use Rattle.pr_run.proofs.Lines.{nothing_appended}
use Rattle.pr_samples.specs.declared.feed.Feed.{Feed}
use Rattle.pr_samples.specs.declared.feed.Got.{Got}
use Rattle.pr_samples.specs.Fed.{Fed, Ending, End, BadSample, Limit}
use Rattle.pr_samples.specs.Feed.{name_of, fed, Begins}
use Rattle.pr_samples.proofs.ResultLemmas.{put_front}
use Rattle.pr_samples.proofs.SeenLemmas.{begins_itself, both_of}
use Rattle.pr_tool_answers.specs.declared.answers.Answer.{Answer}
use Rattle.pr_tool_modes.specs.Evaluations.{EndsBy, answer_by}
use Rattle.pr_tool_modes.specs.Files.{ShowsFault}
use Rattle.pr_tool_modes.specs.Programs.{inputs_of}
use Rattle.pr_tool_modes.specs.Samples.{fed_in}
use Rattle.pr_tool_modes.proofs.FileLemmas.{rose_earlier}
use Rattle.pr_tool_modes.proofs.SampleLemmas.{some_file}
use Rattle.pr_lens_probe.specs.Given.{HaveKinds}
use Rattle.pr_lens_probe.specs.Kinds.{has_room, is_signed}
use Rattle.pr_lens_probe.specs.Shown.{HasColumns, Shows, columns_of, width_of}
use Rattle.pr_lens_probe.proofs.Given.{equations-as}
use Rattle.pr_lens_signals.specs.declared.probing.Showing.{Showing}
use Rattle.pr_lens_signals.specs.Calls.{call}
use Rattle.pr_lens_tracks.specs.declared.looks.Form.{Form}
use Rattle.pr_lens_tracks.specs.declared.looks.Track.{Track}
use Rattle.pr_lens_tracks.specs.declared.pens.Pen.{Pen}
use Rattle.pr_lens_tracks.specs.Texts.{head_text, rows_text}
use Rattle.pr_lens_signals.specs.Manners.{Manner, look_in, look_with, tracks_of}
use Rattle.pr_lens_signals.specs.Reading.{AreLawful, all_looks, all_widths, cut_rows, front_of, instance_rows, HasBegun, HasEnded, IsLongFeed, IsReady, IsSetUp, IsWriteCause}
use Rattle.pr_lens_signals.specs.Signals.{AreFirst, IsBegun, IsShown, IsSignals, IsUnshown, IsWhole, rows_of}
use Rattle.pr_lens_signals.proofs.RowLemmas.{begun_nothing, front_more, long-fed}

-- ---- pieces
front-longer : (old new : Tape) (text more : List ℕ) → AppendsFront old new text → AppendsFront old new (text ++ more)
front-longer old new text more front = put_front old old new text more (text ++ more) (record { written = []; done = nothing_appended old; whole = refl }) front

-- ---- columns
cut-columns : (front : ℕ) (outputs streams : List Stream) (ns : List ℕ) → length outputs ≡ front
    → cut_rows front (map (λ n. numbers_at n outputs ++ numbers_at n streams) ns) ≡ map (λ n. numbers_at n streams) ns
cut-columns front outputs streams [] fits = refl
cut-columns front outputs streams (n ∷ ns) fits =
    let long : length (numbers_at n outputs) ≡ front = length-map outputs _ ∙ fits in
    let cut : drop front (numbers_at n outputs ++ numbers_at n streams) ≡ numbers_at n streams =
    ap (λ (k : ℕ). drop k (numbers_at n outputs ++ numbers_at n streams)) (sym long) ∙ drop-append_seam (numbers_at n outputs) (numbers_at n streams) in
    ap₂ (λ (a : List ℕ) (b : List (List ℕ)). a ∷ b) cut (cut-columns front outputs streams ns fits)

cut-widths : (front : ℕ) (all : List ℕ) (outputs streams : List Stream) → all ≡ map width_of (outputs ++ streams) → length outputs ≡ front → drop front all ≡ map width_of streams
cut-widths front all outputs streams is fits =
    let long : length (map width_of outputs) ≡ front = length-map outputs width_of ∙ fits in
    ap (drop front) (is ∙ map-append width_of outputs streams)
    ∙ (ap (λ (k : ℕ). drop k (map width_of outputs ++ map width_of streams)) (sym long) ∙ drop-append_seam (map width_of outputs) (map width_of streams))

counted : (program : Program) (operands : List Operand) (xs : List (List ℕ)) (has : HasColumns program operands xs) → (instances : ℕ) → length (instances_of program) ≡ instances → length has.outputs + instances ≡ length operands
counted program operands xs has instances is =
    let streams : length has.streams ≡ length (instances_of program) = sym (length-map has.streams Some) ∙ (sym (ap length has.has.each) ∙ length-map (instances_of program) _) in
    omega (arith, has.all, streams, is)

same-equations : (program : Program) (s : Showing) → Shows program s.probed → (equations_of s.probed.scoped.program).equations ≡ (equations_of program).equations
same-equations program s shows = equations-as s.probed.scoped.program program shows.items

-- samples with a number for each input of the equations
samples-are : (program : Program) (s : Showing) (xs : List (List ℕ)) → offence program ≡ None → Shows program s.probed → AreLawful s xs → AreSamples program xs
samples-are program s xs none shows lawful n sample there =
    subst (λ (ws : List ℕ). IsRow ws sample) (ap input_widths shows.equations ∙ inputs-of-equations program none)
    (subst (IsRow (input_widths (shapes_of s.probed.flat.equations.items))) (get_or_from_slice_get xs n sample sample there) (lawful n sample (slice_get_within xs n sample there)))

-- the rows of the equations are those that the program means
rows-mean : (program : Program) (s : Showing) (xs : List (List ℕ)) → offence program ≡ None → (shows : Shows program s.probed) → AreWidths (equations_of program).equations s.widths → AreLawful s xs
    → given_all (shapes_of s.probed.flat.equations.items) s.probed.flat.outputs.items s.widths xs ≡ columns_of (length xs) (shows.columns xs).outputs (shows.columns xs).streams
rows-mean program s xs none shows widths lawful =
    ap (λ (es : List EquationShape). given_all es s.probed.flat.outputs.items s.widths xs) shows.equations
    ∙ (shows.columns xs).are s.widths widths (samples-are program s xs none shows lawful)

pub showing-ready : (program : Program) (s : Showing) → Shows program s.probed → HaveKinds program (instances_of program) s.probed.kinds.items → AreWidths (equations_of program).equations s.widths → IsReady s
showing-ready program s shows have widths = record {
  equations = shows.equations ∙ sym (same-equations program s shows);
  widths = subst (λ es. AreWidths es s.widths) (sym (same-equations program s shows)) widths;
  kinds =
      (let has = (shows.columns []).has in
      let outputs = (shows.columns []).outputs in
      let streams = (shows.columns []).streams in
      let told : length s.probed.kinds.items ≡ length streams = ap length (have [] outputs streams has) ∙ length-map streams _ in
      let count : length streams ≡ length s.probed.instances.items = sym (length-map streams Some) ∙ (sym (ap length has.each) ∙ (length-map (instances_of program) _ ∙ sym (ap length shows.instances))) in
      omega (arith, told, count, s.probed.kinds.ok.0, s.probed.instances.ok.0));
  front = (let all = counted program _ [] (shows.columns []) (length s.probed.instances.items) (sym (ap length shows.instances)) in omega (arith, all, s.probed.flat.outputs.ok.0, s.probed.instances.ok.0));
}

module _ (manner : Manner) (program : Program) (s : Showing) (pen : Pen) (lawful : offence program ≡ None) (is : IsSetUp manner program s pen) where
  inputs-same : inputs_of s.probed.scoped.program ≡ inputs_of program
  inputs-same = ap (λ (l : List Item). inputs_after (items_walk 0 l start)) is.showing.shows.items

  abbrev head : List ℕ
  head = head_text pen.form pen.tracks.items

  abbrev rows-put : List (List ℕ) → List ℕ
  rows-put rows = rows_text pen.form pen.tracks.items rows

  -- the text on samples
  abbrev text-on : List (List ℕ) → List ℕ
  text-on xs = head ++ rows-put (instance_rows s xs)

  signals-are : (xs : List (List ℕ)) → AreLawful s xs → IsSignals manner program xs (text-on xs)
  signals-are xs inputs =
      let has = is.showing.shows.columns xs in
      let all = counted program _ xs has (length s.probed.instances.items) (sym (ap length is.showing.shows.instances)) in
      let fits : length has.outputs ≡ front_of s = omega (arith, all, s.probed.flat.outputs.ok.0, s.probed.instances.ok.0) in
      let widths : drop (front_of s) (all_widths s) ≡ map width_of has.streams = cut-widths (front_of s) (all_widths s) has.outputs has.streams (has.wide s.widths is.showing.widths) fits in
      let kinds = is.showing.kinds xs has.outputs has.streams has.has in
      let looks : all_looks s ≡ map (look_in program) has.streams = zip2_of_maps look_with (λ t. has_room program && is_signed t) width_of has.streams kinds widths in
      let tracks : pen.tracks.items ≡ tracks_of manner.signed (instances_of program) (map (look_in program) has.streams) = is.tracks ∙ ap₂ (tracks_of manner.signed) is.showing.shows.instances looks in
      let rows = ap (cut_rows (front_of s)) (rows-mean program s xs lawful is.showing.shows is.showing.widths inputs) ∙ cut-columns (front_of s) has.outputs has.streams (range_with_len 0 (length xs)) fits in
      record {
        outputs = has.outputs;
        streams = has.streams;
        has = has.has;
        named = is.named;
        is = ap (λ (rs : List (List ℕ)). head_text pen.form pen.tracks.items ++ rows_text pen.form pen.tracks.items rs) rows
            ∙ ap₂ (λ (f : Form) (ts : List Track). head_text f ts ++ rows_text f ts (rows_of (length xs) has.streams)) is.form tracks;
      }

  module _ (told : Told) (name : List ℕ) (first now : Feed) (long : IsLongFeed (inputs_of s.probed.scoped.program) first) (named : name_of now ≡ name) where
    fed-is : (file : List ℕ) → fed first file ≡ fed_in (inputs_of program) file
    fed-is file = long-fed (inputs_of s.probed.scoped.program) first file long ∙ ap (λ (ws : List ℕ). fed_in ws file) inputs-same

    whole : (old mid new : Tape) (end : Got) (ending : Ending) → Appends old mid head → HasEnded told s first now end (λ rows. Appends mid new (rows-put rows))
        → (IsMissing told name → ⊥) → ((e : Ending) → EndsBy end e → e ≡ ending) → IsWhole manner told name program ending old new
    whole old mid new end ending names has there by =
        let read = some_file told name now.tail has.reads.bytes (rw named at has.reads.seen.file) there in
        let all = has.reads.holds read.file read.begins in
        let text = text-on has.samples in
        let samples : has.samples ≡ (fed_in (inputs_of program) read.file).samples = all.all ∙ ap (λ (k : Fed). k.samples) (fed-is read.file) in
        record {
          file = read.file;
          is = read.text;
          ends = sym (ap (λ (k : Fed). k.ending) (fed-is read.file)) ∙ by _ all.ends;
          text = text;
          signals = subst (λ (xs : List (List ℕ)). IsSignals manner program xs text) samples (signals-are has.samples has.lawful);
          written = Appends-append old mid new _ _ names has.text;
        }

    first-is : (samples : List (List ℕ)) (file : List ℕ) → ((k : ℕ) × (samples ≡ take k (fed first file).samples)) → AreFirst (inputs_of program) samples file
    first-is samples file front = (front.0, front.1 ∙ ap (λ (k : Fed). take front.0 k.samples) (fed-is file))

    begun : (P : List (List ℕ) → Type 0) (Put : List ℕ → Type 0) → ((rows : List (List ℕ)) → P rows → Put (head ++ rows-put rows)) → HasBegun told s first now P → IsBegun manner told name program Put
    begun P Put step has =
        let bytes = has.reads.bytes in
        let file = rw named at has.reads.seen.file in
        record {
          samples = has.samples;
          first = record {
            bytes = bytes;
            holds = first-is has.samples bytes (has.reads.holds bytes (begins_itself now.tail bytes));
            own = both_of told name (Begins now.tail bytes) (Begins now.tail bytes) (AreFirst (inputs_of program) has.samples) (λ f h g. first-is has.samples f (has.reads.holds f h)) file file;
          };
          text = text-on has.samples;
          signals = signals-are has.samples has.lawful;
          put = step _ has.text;
        }

    module _ (old new : Tape) (rb rn wb wn : ℕ) where
      -- all samples were read
      pub shown-ended : (mid : Tape) (end : Got) → Appends old mid head → HasEnded told s first now end (λ rows. Appends mid new (rows-put rows)) → (IsMissing told name → ⊥) → end ≢ Got.ReadFault
          → IsShown manner name program (call told rb rn old new wb wn) (answer_by end)
      shown-ended mid Got.Sample names has there no_fault = absurd (has.reads.holds has.reads.bytes (begins_itself now.tail has.reads.bytes)).ends
      shown-ended mid Got.End names has there no_fault = whole old mid new Got.End End names has there (λ e h. h)
      shown-ended mid (Got.BadSample line) names has there no_fault = whole old mid new (Got.BadSample line) (BadSample line) names has there (λ e h. h)
      shown-ended mid Got.ReadFault names has there no_fault = absurd (no_fault refl)
      shown-ended mid (Got.Limit which) names has there no_fault = inr (whole old mid new (Got.Limit which) (Limit which) names has there (λ e h. h))

      -- a read failed
      pub shown-faulted : (mid : Tape) → Appends old mid head → HasBegun told s first now (λ rows. Appends mid new (rows-put rows)) → HasReadCause told name rb rn
          → IsShown manner name program (call told rb rn old new wb wn) Answer.ReadFault
      shown-faulted mid names has cause = (cause, begun (λ rows. Appends mid new (rows-put rows)) (Appends old new) (λ rows h. Appends-append old mid new _ (rows-put rows) names h) has)

      -- the samples came to an end
      pub shown-read : (mid : Tape) (end : Got) → Appends old mid head → (end ≢ Got.ReadFault → HasEnded told s first now end (λ rows. Appends mid new (rows-put rows)))
          → (end ≢ Got.ReadFault → IsMissing told name → ⊥) → (end ≡ Got.ReadFault → HasReadCause told name rb rn) → (end ≡ Got.ReadFault → HasBegun told s first now (λ rows. Appends mid new (rows-put rows)))
          → IsShown manner name program (call told rb rn old new wb wn) (answer_by end)
      shown-read mid Got.ReadFault names ended there cause begins = shown-faulted mid names (begins refl) (cause refl)
      shown-read mid Got.Sample names ended there cause begins = shown-ended mid Got.Sample names (ended (λ e. cc)) (there (λ e. cc)) (λ e. cc)
      shown-read mid Got.End names ended there cause begins = shown-ended mid Got.End names (ended (λ e. cc)) (there (λ e. cc)) (λ e. cc)
      shown-read mid (Got.BadSample line) names ended there cause begins = shown-ended mid (Got.BadSample line) names (ended (λ e. cc)) (there (λ e. cc)) (λ e. cc)
      shown-read mid (Got.Limit which) names ended there cause begins = shown-ended mid (Got.Limit which) names (ended (λ e. cc)) (there (λ e. cc)) (λ e. cc)

      cut : (answer : Answer) → IsBegun manner told name program (AppendsFront old new) → IsWriteCause wb wn answer → IsShown manner name program (call told rb rn old new wb wn) answer
      cut Answer.WriteFault has cause = (cause, has)
      cut Answer.Memory has cause = inr has
      cut answer has cause = absurd cause

      -- a line of numbers was not written whole
      pub shown-cut : (mid : Tape) (answer : Answer) → Appends old mid head → HasBegun told s first now (λ rows. AppendsFront mid new (rows-put rows)) → IsWriteCause wb wn answer
          → IsShown manner name program (call told rb rn old new wb wn) answer
      shown-cut mid answer names has cause = cut answer (begun (λ rows. AppendsFront mid new (rows-put rows)) (AppendsFront old new) (λ rows h. front_more old mid new _ (rows-put rows) names h) has) cause

  -- the line of names was not
  pub shown-nameless : (told : Told) (name : List ℕ) (first : Feed) (long : IsLongFeed (inputs_of s.probed.scoped.program) first) (named : name_of first ≡ name) (old new : Tape) (rb rn wb wn : ℕ) (answer : Answer)
      → AppendsFront old new head → IsWriteCause wb wn answer → IsShown manner name program (call told rb rn old new wb wn) answer
  shown-nameless told name first long named old new rb rn wb wn answer names cause =
      let put : List (List ℕ) → Type 0 = λ rows. AppendsFront old new (head ++ rows-put rows) in
      let has = begun_nothing told s (inputs_of s.probed.scoped.program) first put long (front-longer old new head _ names) in
      cut told name first first long named old new rb rn wb wn answer (begun told name first first long named put (AppendsFront old new) (λ rows h. h) has) cause

-- a cause of a later write is one of both together
pub write-earlier : (a b n : ℕ) (answer : Answer) → a ≤ b → IsWriteCause b n answer → IsWriteCause a n answer
write-earlier a b n Answer.WriteFault h cause = rose_earlier a b n h cause
write-earlier a b n Answer.Memory h cause = tt
write-earlier a b n answer h cause = absurd cause

-- nothing is shown
pub shown-never : (manner : Manner) (name : List ℕ) (program : Program) (told : Told) (rb rn wb wn : ℕ) (tape : Tape) (answer : Answer) → IsUnshown program answer → IsShown manner name program (call told rb rn tape tape wb wn) answer
shown-never manner name program told rb rn wb wn tape (Answer.Limit which) is = inl (is.0, is.1, refl)
shown-never manner name program told rb rn wb wn tape Answer.Memory is = inl refl
shown-never manner name program told rb rn wb wn tape answer is = absurd is

-- a failed read of samples is answered
pub fault-shown : (end : Got) (before now : ℕ) → (end ≢ Got.ReadFault → now ≡ before) → ShowsFault before now (answer_by end)
fault-shown Got.ReadFault before now steady = inl refl
fault-shown Got.Sample before now steady = inr (steady (λ e. cc))
fault-shown Got.End before now steady = inr (steady (λ e. cc))
fault-shown (Got.BadSample line) before now steady = inr (steady (λ e. cc))
fault-shown (Got.Limit which) before now steady = inr (steady (λ e. cc))
