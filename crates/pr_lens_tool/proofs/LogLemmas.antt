-- What is said of the bytes that were read of a file.
use Rattle.std.proofs.Common.{◌≡◌, ◌+◌, ◌-◌, ◌<◌, ◌≤◌, ◌++◌, ◌∙◌, [], ℕ, List, Option, Some, None, IfSome, length, take, drop, refl, sym, ap, subst, arith, length-append, length-drop}
use Rattle.std.specs.Prelude.{IsSome}
use Rattle.std.proofs.lemmas.Bool.{eq-eqb}
use Rattle.std.proofs.lemmas.List.{length-take-le, take-append-drop, take_all}
use Rattle.std.proofs.Math.Seq.{take-add}
use Rattle.pr_edge.specs.Files.{IsMissing, IsPart, IsPrefix, IsReadOnce, IsReadThrough, OfFile, Told, raised}
use Rattle.pr_tool_modes.specs.Files.{IsLong}
use Rattle.pr_tool_modes.proofs.FileLemmas.{long_file}
use Rattle.pr_lens_log.specs.declared.excerpts.Choice.{Choice}
use Rattle.pr_lens_log.specs.declared.logs.Log.{Log}
use Rattle.pr_lens_log.specs.declared.logs.LogFault.{LogFault}
use Rattle.pr_lens_log.specs.declared.logs.LogFault.TheVariants as fault
use Rattle.pr_lens_log.specs.declared.readers.Reader.{Reader}
use Rattle.pr_lens_log.specs.declared.windows.Part.{Part}
use Rattle.pr_lens_log.specs.declared.windows.Window.{Window}
use Rattle.pr_lens_log.specs.Logs.{IsKept, IsLineFault, IsLogAnswer, IsLogOf, Tale}
use Rattle.pr_lens_log.specs.Readers.{HasRead}
use Rattle.pr_lens_log.specs.Windows.{part_of}
use Rattle.pr_lens_tool.specs.declared.orders.Drawing.{Drawing}
use Rattle.pr_lens_tool.specs.declared.orders.Drawing.TheVariants.{Wave, Chart}
use Rattle.pr_lens_tool.specs.declared.outcomes.Outcome.{Outcome}
use Rattle.pr_lens_tool.specs.declared.outcomes.Outcome.TheVariants.{Plain, Refused, Explained, Streamed, Usage, BadLog, NoCycle, Unshown, LongLog, LongModule, LongBench, NoStream}
use Rattle.pr_lens_tool.specs.Outcomes.{Shows}
use Rattle.pr_lens_tool.specs.Logs.{HasLog, HasShortText, HasText, HasUnshown, IsDrawing, IsNoLog, IsReadOnFrom, IsReadTo, IsUndrawn, choice_of, drawn_text, most_log_bytes, outcome_of}

-- ---- bytes of a file, and a piece more
-- the file begins with both
piece_more : (bytes buffer file : List ℕ) (place count : ℕ) → length bytes ≡ place → IsPrefix bytes file → IsPart file place count buffer → IsPrefix (bytes ++ take count buffer) file
piece_more bytes buffer file place count size front part =
    let within = part.within in
    let room : length (drop place file) ≡ length file - place = length-drop place file in
    let had : length (take count (drop place file)) ≡ count = length-take-le count (drop place file) within in
    let piece : length (take count buffer) ≡ count = ap length part.part ∙ had in
    let whole : length (bytes ++ take count buffer) ≡ place + count = omega (arith, length-append bytes (take count buffer), size, piece) in
    let is : bytes ≡ take place file = front.front ∙ ap (λ n. take n file) size in
    record {
      within = omega (arith, whole, within, room, front.within, size);
      front = (λ i. is i ++ part.part i) ∙ (sym (take-add place count file) ∙ ap (λ n. take n file) (sym whole));
    }

-- all of it is both with more
piece_rest : (bytes buffer file : List ℕ) (place count : ℕ) → length bytes ≡ place → IsPrefix bytes file → IsPart file place count buffer
    → bytes ++ take count buffer ++ drop (length (bytes ++ take count buffer)) file ≡ file
piece_rest bytes buffer file place count size front part =
    let both = piece_more bytes buffer file place count size front part in
    ap (λ (b : List ℕ). b ++ drop (length (bytes ++ take count buffer)) file) both.front ∙ take-append-drop (length (bytes ++ take count buffer)) file

both_some : (o : Option (List ℕ)) (A B C : List ℕ → Type 0) → IfSome o A → IfSome o B → ((file : List ℕ) → A file → B file → C file) → IfSome o C
both_some None A B C a b f = tt
both_some (Some file) A B C a b f = f file a b

of_both : (told : Told) (name : List ℕ) (A B C : List ℕ → Type 0) → OfFile told name A → OfFile told name B → ((file : List ℕ) → A file → B file → C file) → OfFile told name C
of_both None name A B C a b f = tt
of_both (Some files) name A B C a b f = both_some (files name) A B C a b f

-- a fact of the file that is told, or of some text where none is
text_of : (told : Told) (name some : List ℕ) (fact : List ℕ → Type 0) → (IsMissing told name → ⊥) → fact some → OfFile told name fact → HasText told name fact
text_of None name some fact there here of = record { text = some; file = tt; is = here }
text_of (Some files) name some fact there here of = elim (files name) as (λ o. files name ≡ o → IfSome o fact → HasText (Some files) name fact) [
  | None ↦ λ e h. absurd (there e)
  | Some file ↦ λ e h. record { text = file; file = e; is = h }
] refl of

module _ (told : Told) (name : List ℕ) (place : ℕ) (old : Reader) (read : IsReadTo told name place old) (there : IsMissing told name → ⊥) (count : ℕ) (buffer : List ℕ)
    (part : OfFile told name (λ file. IsPart file place count buffer)) (within : count ≤ length buffer) where
  abbrev piece : List ℕ
  piece = take count buffer

  -- the piece came to the reader
  pub read_on : (new : Reader) → ((text : List ℕ) → HasRead text old → HasRead (text ++ piece) new) → IsReadTo told name (place + count) new
  read_on new on = record {
    bytes = read.bytes ++ piece;
    count = omega (arith, read.count, length-append read.bytes piece, length-take-le count buffer within);
    file = of_both told name _ _ _ read.file part (λ file front is. piece_more read.bytes buffer file place count read.count front is);
    read = on read.bytes read.read;
  }

  -- or a line of it is none of a log
  pub read_bad : (f : LogFault) → ((text more : List ℕ) → HasRead text old → IsLineFault (text ++ piece ++ more) f) → HasText told name (λ text. IsLineFault text f)
  read_bad f bad =
      text_of told name (read.bytes ++ piece ++ []) (λ text. IsLineFault text f) there (bad read.bytes [] read.read)
      (of_both told name _ _ _ read.file part (λ file front is. subst (λ (t : List ℕ). IsLineFault t f) (piece_rest read.bytes buffer file place count read.count front is) (bad read.bytes (drop (length (read.bytes ++ piece)) file) read.read)))

-- a file was read to its end
pub read_whole : (told : Told) (name : List ℕ) (place : ℕ) (r : Reader) → IsReadTo told name place r → place ≤ most_log_bytes → (IsMissing told name → ⊥)
    → OfFile told name (λ file. length file ≤ place) → HasShortText told name (λ text. HasRead text r)
read_whole told name place r read less there end =
    let whole : (file : List ℕ) → IsPrefix read.bytes file → length file ≤ place → (length file ≤ most_log_bytes) × HasRead file r = λ file front ends.
    (omega (arith, less, ends), subst (λ (t : List ℕ). HasRead t r) (front.front ∙ take_all (length read.bytes) file (omega (arith, ends, read.count))) read.read) in
    let has = text_of told name read.bytes (λ text. (length text ≤ most_log_bytes) × HasRead text r) there (omega (arith, read.count, less), read.read)
    (of_both told name (IsPrefix read.bytes) (λ file. length file ≤ place) (λ file. (length file ≤ most_log_bytes) × HasRead file r) read.file end whole) in
    record { text = has.text; file = has.file; short = has.is.0; is = has.is.1 }

front_some : (o : Option (List ℕ)) → IfSome o (IsPrefix [])
front_some None = tt
front_some (Some file) = record { within = omega arith; front = refl }

front_of : (told : Told) (name : List ℕ) → OfFile told name (IsPrefix [])
front_of None name = tt
front_of (Some files) name = front_some (files name)

-- nothing was read yet
pub read_none : (told : Told) (name : List ℕ) (r : Reader) → HasRead [] r → IsReadTo told name 0 r
read_none told name r read = record { bytes = []; count = refl; file = front_of told name; read = read }

-- it is longer than a log may be
pub long_log : (told : Told) (name : List ℕ) (place limit : ℕ) (r : Reader) → IsReadTo told name place r → limit < place → (IsMissing told name → ⊥) → IsLong told name limit
long_log told name place limit r read more there = long_file told name limit (of_both told name _ _ _ read.file read.file (λ file front same. omega (arith, front.within, read.count, more))) there

-- ---- a log that is read in order
-- a read from the place that was reached
pub reach_on : (place count : ℕ) (before now : Option ℕ) → now ≡ raised before place count → before ≡ Some place → now ≡ Some (place + count)
reach_on place count before now is at = is ∙ (ap (λ (r : Option ℕ). raised r place count) at ∙ rw (eq-eqb place place refl) refl)

-- the last read began within a limit
pub once_on : (most place : ℕ) (first before now : Option ℕ) → place ≤ most → IsReadThrough place first before → IsReadOnFrom place before now → IsReadOnce (most + 4096) first now
once_on most place first before None le through on = λ none. on (through none)
once_on most place first before (Some r) le through on = λ none. let read = on (through none) in (read.0, omega (arith, read.1, le))

-- it ended there
pub once_through : (most place : ℕ) (first now : Option ℕ) → place ≤ most → IsReadThrough place first now → IsReadOnce most first now
once_through most place first now le through = λ none. subst (λ (o : Option ℕ). IsSome o × IfSome o (λ r. r ≤ most)) (sym (through none)) (refl, le)

-- ---- what a call comes to
-- a line is none of a log
pub line_refused : (told : Told) (name : List ℕ) (before now : ℕ) (f : LogFault) → HasText told name (λ text. IsLineFault text f) → IsNoLog told name before now (outcome_of f)
line_refused told name before now (fault.BadLine line) h = record { text = h.text; file = h.file; is = h.is }
line_refused told name before now fault.NoCycle h = absurd h.is
line_refused told name before now (fault.Memory e) h = tt

-- nor is the whole text one
pub no_log : (told : Told) (name : List ℕ) (before now : ℕ) (f : LogFault) → HasShortText told name (λ text. IsLogAnswer text f) → IsNoLog told name before now (outcome_of f)
no_log told name before now (fault.BadLine line) h = record { text = h.text; file = h.file; is = h.is }
no_log told name before now fault.NoCycle h = record { text = h.text; file = h.file; short = h.short; is = h.is }
no_log told name before now (fault.Memory e) h = tt

-- the cause of reads together, where none failed before
pub no_log_since : (first later : Told) (name : List ℕ) (start before now : ℕ) (o : Outcome) → later ≡ first → before ≡ start → IsNoLog later name before now o → IsNoLog first name start now o
no_log_since first later name start before now o same steady h =
    subst (λ (t : Told). IsNoLog t name start now o) same (subst (λ (n : ℕ). IsNoLog later name n now o) steady h)

pub shown_since : (start before now : ℕ) (o : Outcome) → before ≡ start → Shows before now o → Shows start now o
shown_since start before now o steady h = subst (λ (n : ℕ). Shows n now o) steady h

pub has_log : (choice : Choice) (told : Told) (name : List ℕ) (r : Reader) (log : Log) → HasShortText told name (λ text. HasRead text r) → ((text : List ℕ) → HasRead text r → IsLogOf choice text log) → HasLog choice told name log
has_log choice told name r log has of =
    let is = of has.text has.is in
    record { tale = is.tale; tells = record { text = has.text; file = has.file; short = has.short; is = is.is }; kept = is.kept }

pub bad_end : (told : Told) (name : List ℕ) (r : Reader) (f : LogFault) → HasShortText told name (λ text. HasRead text r) → ((text : List ℕ) → HasRead text r → IsLogAnswer text f) → HasShortText told name (λ text. IsLogAnswer text f)
bad_end told name r f has of = record { text = has.text; file = has.file; short = has.short; is = of has.text has.is }

module _ (window : Window) (told : Told) (name : List ℕ) where
  -- a log that is not read is not drawn
  pub undrawn_unread : (before now : ℕ) (o : Outcome) → IsNoLog told name before now o → IsUndrawn window told name before now o
  undrawn_unread before now (Plain answer) h = h
  undrawn_unread before now (Refused answer help) h = absurd h
  undrawn_unread before now (Explained answer) h = h
  undrawn_unread before now (Streamed answer) h = h
  undrawn_unread before now Usage h = h
  undrawn_unread before now (BadLog line) h = h
  undrawn_unread before now NoCycle h = h
  undrawn_unread before now (Unshown first last) h = absurd h
  undrawn_unread before now LongLog h = h
  undrawn_unread before now LongModule h = h
  undrawn_unread before now LongBench h = h
  undrawn_unread before now (NoStream place) h = h

  -- the part of a log that is kept is the one that the window shows
  part_kept : (drawing : Drawing) (log : Log) (has : HasLog (choice_of drawing window) told name log) → log.excerpt.part ≡ part_of window has.tale.cycles
  part_kept Wave log has = has.kept.excerpt.part
  part_kept Chart log has = has.kept.excerpt.part

  pub drawing_is : (drawing : Drawing) (log : Log) (written : List ℕ) → HasLog (choice_of drawing window) told name log → log.excerpt.part.start < log.excerpt.part.end
      → ((tale : Tale) → IsKept (choice_of drawing window) tale log → written ≡ drawn_text drawing (part_of window tale.cycles) tale) → IsDrawing drawing window told name written
  drawing_is drawing log written has some is = record {
    tale = has.tale;
    tells = has.tells;
    some = subst (λ (p : Part). p.start < p.end) (part_kept drawing log has) some;
    is = is has.tale has.kept;
  }

  pub unshown_is : (drawing : Drawing) (log : Log) → HasLog (choice_of drawing window) told name log → log.excerpt.part.end ≤ log.excerpt.part.start
      → HasUnshown window told name log.totals.first log.totals.last
  unshown_is drawing log has none = record {
    tale = has.tale;
    tells = has.tells;
    none = subst (λ (p : Part). p.end ≤ p.start) (part_kept drawing log has) none;
    first_is = has.kept.totals.first;
    last_is = has.kept.totals.last;
  }
