use Rattle.std.proofs.Common.{◌≡◌, ◌≢◌, ◌≤◌, ◌-◌, ℕ, List, length, Some}
use Rattle.std.specs.Prelude.{vec_len}
use Rattle.pr_edge.specs.Files.{IsMissing}
use Rattle.pr_edge.specs.Tape.{Appends}
use Rattle.pr_flat.specs.Shape.{shapes_of}
use Rattle.pr_samples.specs.Feed.{name_of, given_of, most_of, place_of, reads_nothing, SameFile}
use Rattle.pr_lens_tracks.specs.Texts.{HasWritten, rows_text}
use Rattle.pr_lens_signals.specs.Reading.{front_of}
use Rattle.pr_lens_signals.proofs.RowLemmas.{HasPut}
use Rattle.pr_lens_signals.proofs.rows.put_rows.Given as goal

abbrev pub invariant-samples : goal.invariant-samples
invariant-samples g l = record {
  put : HasPut (g.S.Shelf.view l.initial.shelf).told (shapes_of l.showing.probed.flat.equations.items) l.showing.probed.flat.outputs.items l.showing.widths (front_of l.showing) l.initial.work.feed l.work.feed l.work.evaluator
      (λ rows. Appends (g.K.Sink.view l.initial.out).told (g.K.Sink.view l.out).told (rows_text l.initial.work.pen.form l.initial.work.pen.tracks.items rows) × HasWritten rows l.work.pen);
  form : l.work.pen.form ≡ l.initial.work.pen.form;
  tracks : l.work.pen.tracks ≡ l.initial.work.pen.tracks;
  before : vec_len l.work.pen.before ≡ vec_len l.showing.probed.instances;
  count : l.work.pen.count ≡ given_of l.work.feed;
  there : IsMissing (g.S.Shelf.view l.initial.shelf).told (name_of l.initial.work.feed) → reads_nothing l.work.feed;
  sample : length l.sample ≡ vec_len l.showing.probed.scoped.inputs;
  row : length l.row ≡ vec_len l.showing.probed.flat.outputs;
  file : SameFile l.initial.work.feed l.work.feed;
  steady : (g.S.Shelf.view l.shelf).faults ≡ (g.S.Shelf.view l.initial.shelf).faults;
  later : (g.S.Shelf.view l.initial.shelf).faults ≤ (g.S.Shelf.view l.shelf).faults;
  same : (g.S.Shelf.view l.shelf).told ≡ (g.S.Shelf.view l.initial.shelf).told;
  reached : (g.S.Shelf.view l.initial.shelf).reach (name_of l.initial.work.feed) ≡ Some (place_of l.initial.work.feed) → (g.S.Shelf.view l.shelf).reach (name_of l.initial.work.feed) ≡ Some (place_of l.work.feed);
  others : (q : List ℕ) → q ≢ name_of l.initial.work.feed → (g.S.Shelf.view l.shelf).reach q ≡ (g.S.Shelf.view l.initial.shelf).reach q;
  out_later : (g.K.Sink.view l.initial.out).faults ≤ (g.K.Sink.view l.out).faults;
}

abbrev pub decreases-samples : goal.decreases-samples
decreases-samples g l = most_of l.work.feed - given_of l.work.feed
