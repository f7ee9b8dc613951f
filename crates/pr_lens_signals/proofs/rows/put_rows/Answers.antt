use Rattle.std.proofs.Common.{◌≡◌, ◌++◌, ◌∷◌, [], ℕ, List, drop, length, refl, sym, ap, subst, ◌∙◌, arith}
use Rattle.pr_edge.specs.Files.{Told}
use Rattle.pr_edge.specs.Tape.{Appends, AppendsFront}
use Rattle.pr_flat.specs.Shape.{EquationShape, shapes_of}
use Rattle.pr_flat.specs.Values.{input_widths}
use Rattle.pr_flat.specs.Widths.{AreWidths}
use Rattle.pr_run.proofs.Lines.{nothing_appended}
use Rattle.pr_samples.specs.declared.feed.Got.{Got}
use Rattle.pr_samples.specs.Feed.{name_of, given_of, widths_of, StandsFor, IsSeen, ReadsOn, IsGiven, Gives}
use Rattle.pr_scope_facts.proofs.Inputs.{inputs-of-equations}
use Rattle.pr_scope_facts.proofs.InvertedItems.{inputs-scoped}
use Rattle.pr_tool_modes.specs.Programs.{inputs_of}
use Rattle.pr_tool_modes.proofs.FileLemmas.{cause_earlier}
use Rattle.pr_tool_modes.proofs.SampleLemmas.{lawful_next, same_later}
use Rattle.pr_lens_signals.specs.Reading.{front_of}
use Rattle.std.specs.Prelude.{Vec}
use Rattle.std.specs.declared.alloc.Global.{Global}
use Rattle.pr_lens_tracks.specs.declared.looks.Track.{Track}
use Rattle.pr_lens_tracks.specs.Texts.{HasWritten, rows_text}
use Rattle.pr_lens_signals.proofs.RowLemmas.{put-less, put_broken, put_ended, put_faulted, put_more, put_nothing, row-appended, row-front, row-rest, rows_shown}
use Rattle.pr_lens_signals.proofs.rows.put_rows.Goals as goal

pub samples-init : goal.samples-init
samples-init g c =
    let showing = c.args.showing.now in
    let tape = (g.K.Sink.view c.args.out.now).told in
    record {
      put = put_nothing (g.S.Shelf.view c.args.shelf.now).told (shapes_of showing.probed.flat.equations.items) showing.probed.flat.outputs.items showing.widths (inputs_of showing.probed.scoped.program) (front_of showing) c.args.work.now.feed c.args.work.now.evaluator
          (λ rows. Appends tape tape (rows_text c.args.work.now.pen.form c.args.work.now.pen.tracks.items rows) × HasWritten rows c.args.work.now.pen) c.requires.feed (c.requires.evaluator showing.widths) (nothing_appended tape, c.requires.pen.none);
      form = refl;
      tracks = refl;
      before = c.requires.pen.before;
      count = c.requires.pen.none.count ∙ sym c.requires.feed.fresh.samples;
      there = λ missing. c.requires.feed.fresh.bytes;
      sample = c.requires.sample;
      row = c.requires.row;
      file = record { name = refl; widths = refl; limit = refl; most = refl };
      steady = refl;
      later = omega arith;
      same = refl;
      reached = λ known. known;
      others = λ q other. refl;
      out_later = omega arith;
    }

pub next-requires : goal.next-requires
next-requires g c =
    let scoped = c.args.showing.now.probed.scoped in
    omega (arith, c.samples.invariant.sample, scoped.inputs.ok.0, ap length scoped.declared, ap length (c.samples.invariant.file.widths ∙ c.requires.feed.inputs))

pub next-requires-in-Sample-clause-widths : goal.next-requires-in-Sample-clause-widths
next-requires-in-Sample-clause-widths g c = subst (λ (es : List EquationShape). AreWidths es c.args.showing.now.widths) (sym c.requires.ready.equations) c.requires.ready.widths

-- the sample is that of some file
pub next-requires-in-Sample-clause-sample : goal.next-requires-in-Sample-clause-sample
next-requires-in-Sample-clause-sample g c =
    let f = c.samples.work.feed in
    let f' = c.next.new.self in
    let scoped = c.args.showing.now.probed.scoped in
    let equations = shapes_of c.args.showing.now.probed.flat.equations.items in
    let taken = c.samples.invariant.put.taken in
    let seen = subst (λ (t : Told). (bytes : List ℕ) → IsSeen t bytes f → ReadsOn t bytes f f' (λ file. StandsFor f file → IsGiven f' (given_of f) c.next.new.into file)) c.samples.invariant.same c.in-Sample.ensures.seen in
    let inputs : widths_of f' ≡ input_widths equations =
    c.next.ensures.file.widths ∙ (c.samples.invariant.file.widths ∙ (c.requires.feed.inputs
    ∙ (sym scoped.declared ∙ (inputs-scoped scoped ∙ (sym (inputs-of-equations scoped.program scoped.lawful) ∙ sym (ap input_widths c.requires.ready.equations)))))) in
    lawful_next (g.S.Shelf.view c.args.shelf.now).told (input_widths equations) c.args.work.now.feed f f' taken.samples c.next.new.into taken.reads seen inputs

pub next-requires-in-Sample-clause-stands : goal.next-requires-in-Sample-clause-stands
next-requires-in-Sample-clause-stands g c = let taken = c.samples.invariant.put.taken in record { samples = taken.samples; stands = taken.stands }

pub samples-preserved : goal.samples-preserved
samples-preserved g c =
    let f = c.samples.work.feed in
    let f' = c.next.new.self in
    let told = (g.S.Shelf.view c.args.shelf.now).told in
    let put = c.samples.invariant.put in
    let showing = c.args.showing.now in
    let flat = showing.probed.flat in
    let equations = shapes_of flat.equations.items in
    let front = front_of showing in
    let pen = c.samples.work.pen in
    let first = c.args.work.now.pen in
    let old = (g.K.Sink.view c.args.out.now).told in
    let new = (g.K.Sink.view c.put_row.new.out).told in
    let rows = rows_shown front equations flat.outputs.items showing.widths put.taken.samples in
    let row = c.next-in-Sample.new.into in
    let rest = row-rest row _ front (omega (arith, c.len.ensures, c.len-2.ensures)) in
    let same = same_later c.args.work.now.feed f f' c.samples.invariant.file c.next.ensures.file in
    let seen = subst (λ (t : Told). (bytes : List ℕ) → IsSeen t bytes f → ReadsOn t bytes f f' (λ file. StandsFor f file → IsGiven f' (given_of f) c.next.new.into file)) c.samples.invariant.same c.in-Sample.ensures.seen in
    record {
      put = put_more told equations flat.outputs.items showing.widths front c.args.work.now.feed f f' _ _ c.next.new.into row
          (λ rows. Appends old (g.K.Sink.view c.samples.out).told (rows_text first.form first.tracks.items rows) × HasWritten rows pen)
          (λ rows. Appends old new (rows_text first.form first.tracks.items rows) × HasWritten rows c.put_row.new.pen) put same c.in-Sample.ensures.given seen
          (c.next-in-Sample.ensures.stands put.taken.samples put.taken.stands) (c.next-in-Sample.ensures.given put.taken.samples put.taken.stands)
          (λ h. (
            row-appended first.form pen.form first.tracks.items pen.tracks.items rows (drop front row) _ c.samples.invariant.form (ap (λ (v : Vec Track Global). v.items) c.samples.invariant.tracks) rest old (g.K.Sink.view c.samples.out).told new h.0
                (c.in-Ok.ensures.all rows h.1),
            subst (λ (r : List ℕ). HasWritten (rows ++ r ∷ []) c.put_row.new.pen) rest (c.in-Ok.ensures.written rows h.1),
          ));
      form = c.put_row.ensures.form ∙ c.samples.invariant.form;
      tracks = c.put_row.ensures.tracks ∙ c.samples.invariant.tracks;
      before = c.put_row.ensures.size ∙ c.samples.invariant.before;
      count = omega (arith, c.in-Ok.ensures.count, c.samples.invariant.count, c.in-Sample.ensures.given);
      there = λ missing.
          absurd (let no : Got.Sample ≡ Got.ReadFault = sym c.in-Sample.is ∙ c.next.ensures.missing (rw (← c.samples.invariant.file.name, ← c.samples.invariant.same) at missing) (c.samples.invariant.there missing) in cc);
      sample = c.next.auto.into ∙ c.samples.invariant.sample;
      row = c.next-in-Sample.auto.into ∙ c.samples.invariant.row;
      file = same;
      steady = c.next.ensures.steady (λ fault. let no : Got.Sample ≡ Got.ReadFault = sym c.in-Sample.is ∙ fault in cc) ∙ c.samples.invariant.steady;
      later = omega (arith, c.samples.invariant.later, c.next.ensures.later);
      same = c.next.ensures.same ∙ c.samples.invariant.same;
      reached = λ known. rw c.samples.invariant.file.name at (c.next.ensures.reached (rw c.samples.invariant.file.name (c.samples.invariant.reached known)));
      others = λ q other. c.next.ensures.others q (rw c.samples.invariant.file.name other) ∙ c.samples.invariant.others q other;
      out_later = omega (arith, c.samples.invariant.out_later, c.put_row.ensures.later);
    }

pub returns-in_default-clause-ended : goal.returns-in_default-clause-ended
returns-in_default-clause-ended g c = λ no_fault.
    let f = c.samples.work.feed in
    let f' = c.next.new.self in
    let pen = c.args.work.now.pen in
    let fact : List (List ℕ) → Type 0 = λ rows. Appends (g.K.Sink.view c.args.out.now).told (g.K.Sink.view c.samples.out).told (rows_text pen.form pen.tracks.items rows) in
    let put = put-less (g.S.Shelf.view c.args.shelf.now).told _ _ _ _ _ _ _ _ fact c.samples.invariant.put (λ rows h. h.0) in
    let showing = c.args.showing.now in
    let scoped = showing.probed.scoped in
    let flat = showing.probed.flat in
    let same = same_later c.args.work.now.feed f f' c.samples.invariant.file c.next.ensures.file in
    let seen = subst (λ (t : Told). (bytes : List ℕ) → IsSeen t bytes f → ReadsOn t bytes f f' (λ file. StandsFor f file → Gives c.next.result (given_of f) f' c.next.new.into file)) c.samples.invariant.same c.next.ensures.seen in
    put_ended (g.S.Shelf.view c.args.shelf.now).told showing c.args.work.now.feed f c.samples.work.evaluator _ put f' c.next.new.into c.next.result same
    c.next.ensures.given seen c.in_default.not-Sample no_fault

pub returns-in_default-clause-begun : goal.returns-in_default-clause-begun
returns-in_default-clause-begun g c = λ fault.
    let f = c.samples.work.feed in
    let f' = c.next.new.self in
    let pen = c.args.work.now.pen in
    let fact : List (List ℕ) → Type 0 = λ rows. Appends (g.K.Sink.view c.args.out.now).told (g.K.Sink.view c.samples.out).told (rows_text pen.form pen.tracks.items rows) in
    let put = put-less (g.S.Shelf.view c.args.shelf.now).told _ _ _ _ _ _ _ _ fact c.samples.invariant.put (λ rows h. h.0) in
    let showing = c.args.showing.now in
    let scoped = showing.probed.scoped in
    let flat = showing.probed.flat in
    let seen = subst (λ (t : Told). (bytes : List ℕ) → IsSeen t bytes f → ReadsOn t bytes f f' (λ file. StandsFor f file → Gives c.next.result (given_of f) f' c.next.new.into file)) c.samples.invariant.same c.next.ensures.seen in
    put_faulted (g.S.Shelf.view c.args.shelf.now).told showing c.args.work.now.feed f c.samples.work.evaluator _ put f' _ seen

pub returns-in_default-clause-there : goal.returns-in_default-clause-there
returns-in_default-clause-there g c = λ no_fault missing. no_fault (c.next.ensures.missing (rw (← c.samples.invariant.file.name, ← c.samples.invariant.same) at missing) (c.samples.invariant.there missing))

pub returns-in_default-clause-read : goal.returns-in_default-clause-read
returns-in_default-clause-read g c = λ fault.
    cause_earlier (g.S.Shelf.view c.args.shelf.now).told (name_of c.args.work.now.feed) _ _ _ c.samples.invariant.later (rw (c.samples.invariant.file.name, c.samples.invariant.same) at (c.next.ensures.cause fault))

pub returns-in_default-clause-steady : goal.returns-in_default-clause-steady
returns-in_default-clause-steady g c = λ no_fault. c.next.ensures.steady no_fault ∙ c.samples.invariant.steady

pub returns-in-Err-clause-kept : goal.returns-in-Err-clause-kept
returns-in-Err-clause-kept g c = c.next.ensures.steady (λ fault. let no : Got.Sample ≡ Got.ReadFault = sym c.in-Sample.is ∙ fault in cc) ∙ c.samples.invariant.steady

pub returns-in-Err-clause-cut : goal.returns-in-Err-clause-cut
returns-in-Err-clause-cut g c =
    let f = c.samples.work.feed in
    let f' = c.next.new.self in
    let told = (g.S.Shelf.view c.args.shelf.now).told in
    let put = c.samples.invariant.put in
    let showing = c.args.showing.now in
    let scoped = showing.probed.scoped in
    let flat = showing.probed.flat in
    let same = same_later c.args.work.now.feed f f' c.samples.invariant.file c.next.ensures.file in
    let seen = subst (λ (t : Told). (bytes : List ℕ) → IsSeen t bytes f → ReadsOn t bytes f f' (λ file. StandsFor f file → IsGiven f' (given_of f) c.next.new.into file)) c.samples.invariant.same c.in-Sample.ensures.seen in
    let front = front_of showing in
    let pen = c.samples.work.pen in
    let first = c.args.work.now.pen in
    let old = (g.K.Sink.view c.args.out.now).told in
    let new = (g.K.Sink.view c.put_row.new.out).told in
    let rows = rows_shown front (shapes_of flat.equations.items) flat.outputs.items showing.widths put.taken.samples in
    let row = c.next-in-Sample.new.into in
    let rest = row-rest row _ front (omega (arith, c.len.ensures, c.len-2.ensures)) in
    let broken = put_more told (shapes_of flat.equations.items) flat.outputs.items showing.widths front c.args.work.now.feed f f' _ _ c.next.new.into row
    (λ rows. Appends old (g.K.Sink.view c.samples.out).told (rows_text first.form first.tracks.items rows) × HasWritten rows pen) (λ rows. AppendsFront old new (rows_text first.form first.tracks.items rows)) put same
    c.in-Sample.ensures.given seen (c.next-in-Sample.ensures.stands put.taken.samples put.taken.stands) (c.next-in-Sample.ensures.given put.taken.samples put.taken.stands)
    (λ h. row-front first.form pen.form first.tracks.items pen.tracks.items rows (drop front row) _ c.samples.invariant.form (ap (λ (v : Vec Track Global). v.items) c.samples.invariant.tracks) rest old
    (g.K.Sink.view c.samples.out).told new h.0 (c.in-Err.ensures.front rows h.1)) in
    put_broken told showing c.args.work.now.feed f' _ _ broken
